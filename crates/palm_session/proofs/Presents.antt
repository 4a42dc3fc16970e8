-- The present ones of declared values.
use Rattle.std.proofs.Common.{◌≡◌, ℕ, ◌+◌, ◌<◌, Bool, true, false, cond, List, [], ◌∷◌, ◌++◌, length, take, get_or, filter, Contains, ℤ, refl, sym, ap, ◌∙◌, subst, append-nil}
use Rattle.std.proofs.lemmas.List.Elements.{filter_more}
use Rattle.palm_base.proofs.cited.Members.{filter_member, member_filter}
use Rattle.palm_model.specs.Domains.{Ascends}
use Rattle.palm_model.specs.Removed.{is_listed}
use Rattle.palm_model.proofs.cited.Ascending.{ascends_filter, ascending_same}
use Rattle.palm_model.proofs.cited.Reasons.{listed_member, member_listed}

pub not_listed : (vs : List ℤ) (v : ℤ) → (Contains vs v → ⊥) → is_listed vs v ≡ false
not_listed vs v missing = go (is_listed vs v) refl
  where
    go : (b : Bool) → is_listed vs v ≡ b → b ≡ false
    go true e = absurd (missing (listed_member vs v e))
    go false e = refl

pub filter_taken : (p : ℤ → Bool) (vs : List ℤ) (i : ℕ) (v : ℤ) → i < length vs → v ≡ get_or vs i v → p v ≡ true → filter p (take i vs) ++ v ∷ [] ≡ filter p (take (i + 1) vs)
filter_taken p vs i v lt at is =
    sym (subst (λ (u : ℤ). filter p (take (i + 1) vs) ≡ filter p (take i vs) ++ cond (p u) (u ∷ []) []) (sym at) (filter_more p vs i v lt)
    ∙ ap (λ (b : Bool). filter p (take i vs) ++ cond b (v ∷ []) []) is)

pub filter_left : (p : ℤ → Bool) (vs : List ℤ) (i : ℕ) (v : ℤ) → i < length vs → v ≡ get_or vs i v → p v ≡ false → filter p (take i vs) ≡ filter p (take (i + 1) vs)
filter_left p vs i v lt at is =
    sym (subst (λ (u : ℤ). filter p (take (i + 1) vs) ≡ filter p (take i vs) ++ cond (p u) (u ∷ []) []) (sym at) (filter_more p vs i v lt)
    ∙ ap (λ (b : Bool). filter p (take i vs) ++ cond b (v ∷ []) []) is ∙ append-nil (filter p (take i vs)))

pub presents_listed : (declared present : List ℤ) → Ascends declared → Ascends present → ((v : ℤ) → Contains present v → Contains declared v) → filter (is_listed present) declared ≡ present
presents_listed declared present up ascend inside =
    ascending_same (filter (is_listed present) declared) present (ascends_filter (is_listed present) declared up) ascend
    (λ v m. listed_member present v (filter_member (is_listed present) declared v m).1)
    (λ v m. member_filter (is_listed present) declared v (inside v m) (member_listed present v m))
