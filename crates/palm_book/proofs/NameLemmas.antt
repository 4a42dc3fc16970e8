-- Looking names up in a list of entries.
use Rattle.std.proofs.Common.{◌≡◌, ◌≢◌, ℕ, ◌<◌, Bool, true, false, cond, List, [], ◌∷◌, length, map, get_or, All, Option, Some, None, IfSome, IfNone, is_some, slice_get, position, refl, sym, ◌∙◌, true≢false, arith}
use Rattle.std.proofs.lemmas.List.{get_or-map, length-map}
use Rattle.std.proofs.lemmas.List.Elements.{All-from_recursion, recursion_from_All}
use Rattle.std.proofs.lemmas.List.Quantifiers.{position-Some}
use Rattle.std.proofs.lemmas.Bool.{false_from_ne_true}
use Rattle.std.proofs.lemmas.Option.{slice_get-get_or}
use Rattle.std.proofs.lemmas.Slice.Eq.{bytes_eq-Decides}
use Rattle.std.specs.List.{AllByRecursion}
use Rattle.std.specs.Map.{lookup}
use Rattle.std.specs.Str.{bytes_eq}

module _ {V : Type 0} where
  -- a name that a look-up finds has an entry at that place
  pub named_at : (entries : List (List ℕ × V)) (name : List ℕ) (place : ℕ) → position (bytes_eq name) (map (λ e. e.0) entries) ≡ Some place → IfSome (slice_get entries place) (λ e. e.0 ≡ name) × (place < length entries)
  named_at [] name place found = absurd (omega (arith, (position-Some (bytes_eq name) [] place [] found).0))
  named_at (e ∷ es) name place found =
      let keys : List (List ℕ) = map (λ (e : List ℕ × V). e.0) (e ∷ es) in
      let at = position-Some (bytes_eq name) keys place [] found in
      let within : place < length (e ∷ es) = omega (arith, at.0, length-map (e ∷ es) (λ (e : List ℕ × V). e.0)) in
      let key : get_or keys place [] ≡ (get_or (e ∷ es) place e).0 = get_or-map (λ (e : List ℕ × V). e.0) (e ∷ es) place e [] within in
      let same : name ≡ get_or keys place [] = (bytes_eq-Decides name (get_or keys place [])).0 at.1 in
      (rw (slice_get-get_or (e ∷ es) place e within) (sym (same ∙ key)), within)

  pub found_name : (entries : List (List ℕ × V)) (name : List ℕ) (r : Option ℕ) → r ≡ position (bytes_eq name) (map (λ e. e.0) entries) → IfSome r (λ place. IfSome (slice_get entries place) (λ e. e.0 ≡ name) × (place < length entries))
  found_name entries name None is = tt
  found_name entries name (Some place) is = named_at entries name place (sym is)

  -- a name that a look-up does not find has no entry
  no_entry_from : (name : List ℕ) (es : List (List ℕ × V)) → is_some (lookup (bytes_eq name) es) ≡ false → AllByRecursion (λ e. e.0 ≢ name) es
  no_entry_from name [] h = tt
  no_entry_from name (e ∷ es) h = at (bytes_eq name e.0) refl h (no_entry_from name es)
    where
      at : (b : Bool) → bytes_eq name e.0 ≡ b → is_some (cond b (Some e.1) (lookup (bytes_eq name) es)) ≡ false → (is_some (lookup (bytes_eq name) es) ≡ false → AllByRecursion (λ e. e.0 ≢ name) es) → (e.0 ≢ name) × AllByRecursion (λ e. e.0 ≢ name) es
      at true q k rest = absurd (true≢false k)
      at false q k rest = (λ same. true≢false (sym ((bytes_eq-Decides name e.0).1 (sym same)) ∙ q), rest k)

  pub no_entry : (entries : List (List ℕ × V)) (name : List ℕ) (r : Option ℕ) → is_some r ≡ is_some (lookup (bytes_eq name) entries) → IfNone r (All (λ e. e.0 ≢ name) entries)
  no_entry entries name None is = All-from_recursion (λ e. e.0 ≢ name) entries (no_entry_from name entries (sym is))
  no_entry entries name (Some place) is = tt

  -- and one without an entry is not found
  not_found_from : (name : List ℕ) (es : List (List ℕ × V)) → AllByRecursion (λ e. e.0 ≢ name) es → lookup (bytes_eq name) es ≡ None
  not_found_from name [] h = refl
  not_found_from name (e ∷ es) h =
      let other : bytes_eq name e.0 ≡ false = false_from_ne_true (bytes_eq name e.0) (λ q. h.0 (sym ((bytes_eq-Decides name e.0).0 q))) in
      rw other (not_found_from name es h.1)

  pub not_found : (entries : List (List ℕ × V)) (name : List ℕ) → All (λ e. e.0 ≢ name) entries → lookup (bytes_eq name) entries ≡ None
  not_found entries name fresh = not_found_from name entries (recursion_from_All (λ e. e.0 ≢ name) entries fresh)
