-- What is known between two turns: it holds after the first settling, and turns with the settlings after them keep it.
use Rattle.std.proofs.Common.{◌≡◌, ℕ, zero, suc, ◌+◌, ◌-◌, ◌≤◌, Bool, true, false, None, Some, List, [], ◌∷◌, ◌++◌, length, filter, Contains, slice_get, inl, inr, refl, sym, ap, ◌∙◌, subst, arith, length-append}
use Rattle.std.specs.Prelude.{if◌then◌else◌}
use Rattle.std.proofs.lemmas.Bool.{cases_Bool, false≢true}
use Rattle.std.proofs.lemmas.List.Elements.{Contains-append_left, Contains-append_right}
use Rattle.palm_base.specs.declared.terms.Pair.{Pair}
use Rattle.palm_base.specs.declared.terms.Cid.{Cid}
use Rattle.palm_base.specs.declared.terms.Cid.TheVariants.{Decide, Not}
use Rattle.palm_base.specs.Order.{same_pair}
use Rattle.palm_base.proofs.cited.CidOrder.{pair_same, same_pair_itself}
use Rattle.palm_base.proofs.cited.Members.{filter_member, member_filter, member_here, member_map, member_there, member_unmap}
use Rattle.palm_model.specs.Log.{Active, cids_of, is_named}
use Rattle.palm_model.specs.State.{EngineState, IsValid, decision_of, is_user, negation_of, without_cid}
use Rattle.palm_model.specs.Event.{Posts, gone_with}
use Rattle.palm_model.specs.declared.constraint.Con.TheVariants.{CompareConst}
use Rattle.palm_model.specs.declared.constraint.Op.TheVariants.{Eq}
use Rattle.palm_events.specs.Scoped.{HasScopedReasons}
use Rattle.palm_events.proofs.cited.Names.{member_named, named_member, single}
use Rattle.palm_events.proofs.cited.Reasons.{reasons_right}
use Rattle.palm_events.proofs.cited.Scoped.{posts_scoped, run_scoped, withdraws_scoped}
use Rattle.palm_events.proofs.cited.States.{member_without_cid, with_posted_cases, without_cid_member, without_cids_member}
use Rattle.palm_book.specs.Book.{Contents, active_of, initial_of, user_at}
use Rattle.palm_book.specs.declared.book.BookCon.{BookCon}
use Rattle.palm_engine.proofs.cited.Settled.{settling_filters}
use Rattle.palm_search.specs.declared.turn.Pick.{Pick}
use Rattle.palm_search.specs.declared.turn.Turn.TheVariants.{Decide as TurnDecide, Undo as TurnUndo}
use Rattle.palm_search.specs.Kept.{HasOnlyUsers, IsSearching}
use Rattle.palm_search.specs.Search.{begun}
use Rattle.palm_search.specs.Turns.{Decides, Follows, SearchState, SettlesAfter, Undoes}
use Rattle.palm_search.proofs.cited.Deciding.{not_negation, taken_others}
use Rattle.palm_search.proofs.cited.Keeping.{begins, settles_keep, takes_keep, user_not, user_not_decision}
use Rattle.proof_run.specs.Lemma.{last_from, lemma_of}
use Rattle.proof_run.proofs.Situation.{AreGiven, IsArguing, IsGivenBy, LemmaData, lemma_data}

-- ---- lists

none_some : {X : Type 0} (x : X) → None ≡ Some x → ⊥
none_some x e = cc

get_more : {X : Type 0} (xs ys : List X) (k : ℕ) (x : X) → slice_get xs k ≡ Some x → slice_get (xs ++ ys) k ≡ Some x
get_more [] ys k x e = absurd (none_some x e)
get_more (z ∷ xs) ys zero x e = e
get_more (z ∷ xs) ys (suc k) x e = get_more xs ys k x e

get_last : {X : Type 0} (xs : List X) (x : X) → slice_get (xs ++ x ∷ []) (length xs) ≡ Some x
get_last [] x = refl
get_last (z ∷ xs) x = get_last xs x

-- the pair behind the others is the last of the pairs
push_same : (n found : ℕ) (undone : List Pair) (g : Pair) → last_from n found (undone ++ g ∷ []) g ≡ n + length undone
push_same n found [] g = rw (same_pair_itself g) (omega arith)
push_same n found (q ∷ qs) g =
    let shift : n + 1 + length qs ≡ n + length (q ∷ qs) = omega arith in
    push_same (n + 1) (if same_pair q g then n else found) qs g ∙ shift

push_other : (n found : ℕ) (undone : List Pair) (g p : Pair) → same_pair g p ≡ false → last_from n found (undone ++ g ∷ []) p ≡ last_from n found undone p
push_other n found [] g p f = rw f refl
push_other n found (q ∷ qs) g p f = push_other (n + 1) (if same_pair q p then n else found) qs g p f

-- ---- decisions

negated_same : (p q : Pair) → Not p ≡ Not q → p ≡ q
negated_same p q e = cc

decision_same : (q p : Pair) → decision_of q ≡ decision_of p → q ≡ p
decision_same q p e =
    let h : CompareConst q.var Eq q.value ≡ CompareConst p.var Eq p.value = ap (λ (a : Active). a.con) e in
    let x : q.var ≡ p.var = var h in
    let v : q.value ≡ p.value = value h in
    λ i. record { var = x i; value = v i }
  where
    var : CompareConst q.var Eq q.value ≡ CompareConst p.var Eq p.value → q.var ≡ p.var
    var h = cc

    value : CompareConst q.var Eq q.value ≡ CompareConst p.var Eq p.value → q.value ≡ p.value
    value h = cc

-- decisions on one variable are one
one_decision : (s : SearchState) → IsSearching s → (q p : Pair) → Contains s.decisions q → Contains s.decisions p → Decide q.var ≡ Decide p.var → q ≡ p
one_decision s searching q p m n e =
    decision_same q p (single s.engine.active searching.valid.rising (decision_of q) (decision_of p) (searching.decisions.active q m) (searching.decisions.active p n) e)

-- ---- negations that lemmas gave

given_same : (undone : List Pair) (lemmas : List LemmaData) (few more : List Pair) (a : Active) (p : Pair) → ((q : Pair) → Contains few q → Contains more q) → IsGivenBy undone lemmas few a p → IsGivenBy undone lemmas more a p
given_same undone lemmas few more a p sub given = record {
  lemma = given.lemma;
  positive = given.positive;
  stands = given.stands;
  among = given.among;
  others = λ q m ne. let r = given.others q m ne in (r.0, sub q r.1);
  users = given.users;
}

pub given_decides : (guided : Bool) (undone : List Pair) (lemmas : List LemmaData) (s : SearchState) (p : Pair) (pick : Pick) (t : SearchState) → Decides guided s p pick t → AreGiven undone lemmas s → AreGiven undone lemmas t
given_decides guided undone lemmas s p pick t turn given = record {
  each = λ a q m named. elim (with_posted_cases (decision_of p) s.engine.active a (subst (λ (z : EngineState). Contains z.active a) turn.posts.after m)) [
    | inl e ↦ absurd (not_negation p.var q (ap (λ (b : Active). b.cid) e ∙ named))
    | inr k ↦ given_same undone lemmas s.decisions t.decisions a q (λ r j. subst (λ l. Contains l r) (sym turn.decisions) (Contains-append_left s.decisions (p ∷ []) r j)) (given.each a q k named)
  ];
  as_many = given.as_many;
}

pub given_settles : (ordered : Bool) (undone : List Pair) (lemmas : List LemmaData) (s t : SearchState) → SettlesAfter ordered s t → AreGiven undone lemmas s → AreGiven undone lemmas t
given_settles ordered undone lemmas s t settles given =
    let filters = settling_filters None s.engine settles.revisions t.engine settles.settles in
    record {
      each = λ a q m named. given_same undone lemmas s.decisions t.decisions a q (λ r j. subst (λ l. Contains l r) (sym settles.decisions) j)
          (given.each a q (subst (λ l. Contains l a) filters.active m) named);
      as_many = given.as_many;
    }

-- a negation that stays was given by its lemma, and the lemma's other pairs are decided still
stays_given : (undone : List Pair) (lemmas : List LemmaData) (s : SearchState) (gone : Pair) (conflict : List Cid) (t : SearchState) (turn : Undoes s gone conflict t) → (last : LemmaData) → AreGiven undone lemmas s
    → (a : Active) (p : Pair) → Contains s.engine.active a → (Contains (gone_with s.engine.active (Decide gone.var)) a.cid → ⊥) → a.cid ≡ Not p → (gone ≡ p → ⊥)
    → IsGivenBy (undone ++ gone ∷ []) (lemmas ++ last ∷ []) t.decisions a p
stays_given undone lemmas s gone conflict t turn last given a p m stays named apart =
    let old = given.each a p m named in
    let number : lemma_of (undone ++ gone ∷ []) p ≡ lemma_of undone p = push_other 1 0 undone gone p (other_pair gone p apart) in
    record {
      lemma = old.lemma;
      positive = subst (λ k. 1 ≤ k) (sym number) old.positive;
      stands = subst (λ k. slice_get (lemmas ++ last ∷ []) (k - 1) ≡ Some old.lemma) (sym number) (get_more lemmas (last ∷ []) (lemma_of undone p - 1) old.lemma old.stands);
      among = old.among;
      others = λ q k ne.
          let r = old.others q k ne in (
            r.0,
            subst (λ l. Contains l q) (sym turn.latest.others) (taken_others turn.latest.earlier turn.latest.later gone q
                (λ e. stays (held_goes s.engine.active a (Decide gone.var) m (subst (λ (g : Pair). Contains a.justification (Decide g.var)) (sym e) r.0)))
                (subst (λ l. Contains l q) turn.latest.are r.1)),
          );
      users = old.users;
    }
  where
    other_pair : (g p : Pair) → (g ≡ p → ⊥) → same_pair g p ≡ false
    other_pair g p ne = elim (cases_Bool (same_pair g p)) [ inl t ↦ absurd (ne (pair_same g p t)) | inr f ↦ f ]

    held_goes : (active : List Active) (a : Active) (cid : Cid) → Contains active a → Contains a.justification cid → Contains (gone_with active cid) a.cid
    held_goes active a cid m held =
        let names = cids_of (filter (λ (b : Active). is_named b.justification cid) active) in
        member_there cid names a.cid (member_map (λ (b : Active). b.cid) (filter (λ b. is_named b.justification cid) active) a
        (member_filter (λ (b : Active). is_named b.justification cid) active a m (member_named a.justification cid held)))

-- the new negation is given by the new lemma
new_given : (undone : List Pair) (lemmas : List LemmaData) (s : SearchState) (gone : Pair) (conflict : List Cid) (t : SearchState) (turn : Undoes s gone conflict t) → IsSearching s → length lemmas ≡ length undone
    → IsGivenBy (undone ++ gone ∷ []) (lemmas ++ lemma_data s conflict ∷ []) t.decisions (negation_of gone (without_cid (Decide gone.var) conflict)) gone
new_given undone lemmas s gone conflict t turn searching many =
    let number : lemma_of (undone ++ gone ∷ []) gone ≡ 1 + length undone = push_same 1 0 undone gone in
    let place : lemma_of (undone ++ gone ∷ []) gone - 1 ≡ length lemmas = omega (arith, number, many) in
    let taken : Contains s.decisions gone = subst (λ l. Contains l gone) (sym turn.latest.are) (Contains-append_right turn.latest.earlier (gone ∷ turn.latest.later) gone (member_here gone turn.latest.later)) in
    record {
      lemma = lemma_data s conflict;
      positive = omega (arith, number);
      stands = subst (λ k. slice_get (lemmas ++ lemma_data s conflict ∷ []) k ≡ Some (lemma_data s conflict)) (sym place) (get_last lemmas (lemma_data s conflict));
      among = member_filter (λ p. is_named conflict (Decide p.var)) s.decisions gone taken (member_named conflict (Decide gone.var) turn.latest.held);
      others = λ q m ne.
          let r = filter_member (λ (p : Pair). is_named conflict (Decide p.var)) s.decisions q m in (
            member_without_cid (Decide gone.var) conflict (Decide q.var) (named_member conflict (Decide q.var) r.1) (λ e. ne (one_decision s searching q gone r.0 taken e)),
            subst (λ l. Contains l q) (sym turn.latest.others) (taken_others turn.latest.earlier turn.latest.later gone q (λ e. ne (sym e)) (subst (λ l. Contains l q) turn.latest.are r.0)),
          );
      users = λ c user. (
        λ m. let r = filter_member is_user conflict c m in member_without_cid (Decide gone.var) conflict c r.0 (user_not_decision c gone.var user),
        λ m. member_filter is_user conflict c (without_cid_member (Decide gone.var) conflict c m).0 user,
      );
    }

pub given_undoes : (undone : List Pair) (lemmas : List LemmaData) (s : SearchState) (gone : Pair) (conflict : List Cid) (t : SearchState) → Undoes s gone conflict t → IsSearching s → AreGiven undone lemmas s
    → AreGiven (undone ++ gone ∷ []) (lemmas ++ lemma_data s conflict ∷ []) t
given_undoes undone lemmas s gone conflict t turn searching given = record {
  each = λ a p m named.
      let negation = negation_of gone (without_cid (Decide gone.var) conflict) in
      elim (with_posted_cases negation turn.middle.active a (subst (λ (z : EngineState). Contains z.active a) turn.posts.after m)) [
        | inl e ↦
            let same : gone ≡ p = negated_same gone p (ap (λ (b : Active). b.cid) e ∙ named) in
            subst (λ (b : Active). IsGivenBy (undone ++ gone ∷ []) (lemmas ++ lemma_data s conflict ∷ []) t.decisions b p) e
            (subst (λ (g : Pair). IsGivenBy (undone ++ gone ∷ []) (lemmas ++ lemma_data s conflict ∷ []) t.decisions negation g) same
            (new_given undone lemmas s gone conflict t turn searching given.as_many))
        | inr k ↦
            let old = without_cids_member (gone_with s.engine.active (Decide gone.var)) s.engine.active a (subst (λ (z : EngineState). Contains z.active a) turn.withdraws.after k) in
            stays_given undone lemmas s gone conflict t turn (lemma_data s conflict) given a p old.0 old.1 named
            (λ e. turn.posts.inactive (record { owner = a; posted = k; named = named ∙ ap Not (sym e) }))
      ];
  as_many = length-append lemmas (lemma_data s conflict ∷ []) ∙ ap (λ n. n + 1) given.as_many ∙ sym (length-append undone (gone ∷ []));
}

-- ---- constraints of users

-- the active constraints of users are active ones of the book
abbrev AreListed : Contents → List Active → Type 0
AreListed book active = (a : Active) → Contains active a → is_user a.cid ≡ true → (c : BookCon) × Contains book.constraints c × (c.active ≡ true) × (a ≡ user_at c)

listed_start : (book : Contents) (a : Active) → Contains (active_of book) a → (c : BookCon) × Contains book.constraints c × (c.active ≡ true) × (a ≡ user_at c)
listed_start book a m =
    let r = member_unmap user_at (filter (λ (c : BookCon). c.active) book.constraints) a m in
    let f = filter_member (λ (c : BookCon). c.active) book.constraints r.0 r.1 in
    (r.0, f.0, f.1, sym r.2)

only_users : (book : Contents) (s : EngineState) → s.active ≡ active_of book → HasOnlyUsers s
only_users book s e a m =
    let r = listed_start book a (subst (λ (l : List Active). Contains l a) e m) in
    subst (λ (b : Active). is_user b.cid ≡ true) (sym r.3) refl

listed_same : (book : Contents) (before after : List Active) → after ≡ before → AreListed book before → AreListed book after
listed_same book before after e listed a m user = listed a (subst (λ (l : List Active). Contains l a) e m) user

listed_posts : (book : Contents) (s t : EngineState) (b : Active) → is_user b.cid ≡ false → Posts s b t → AreListed book s.active → AreListed book t.active
listed_posts book s t b apart posts listed a m user = elim (with_posted_cases b s.active a (subst (λ (z : EngineState). Contains z.active a) posts.after m)) [
  | inl e ↦ absurd (false≢true (sym apart ∙ ap (λ (x : Active). is_user x.cid) e ∙ user))
  | inr k ↦ listed a k user
]

-- ---- what is known

pub knowing_start : (book : Contents) (ordered : Bool) (s : EngineState) (start : SearchState) → IsValid s → HasScopedReasons s → s.initial ≡ initial_of book → s.active ≡ active_of book
    → SettlesAfter ordered (begun s) start → IsArguing book [] [] start
knowing_start book ordered s start valid scoped initial active settles =
    let users = only_users book s active in
    let filters = settling_filters None s settles.revisions start.engine settles.settles in
    let back = filters.active ∙ active in
    record {
      searching = settles_keep reasons_right ordered (begun s) start settles (begins s valid users);
      scoped = run_scoped s filters.steps start.engine filters.run valid scoped;
      initial = filters.initial ∙ initial;
      users = λ a m user. listed_start book a (subst (λ (l : List Active). Contains l a) back m);
      given = record {
        each = λ a p m named. absurd (user_not a.cid p (users a (subst (λ (l : List Active). Contains l a) filters.active m)) named);
        as_many = refl;
      };
    }

-- a settling keeps it
knowing_settles : (ordered : Bool) (book : Contents) (undone : List Pair) (lemmas : List LemmaData) (s t : SearchState) → SettlesAfter ordered s t → IsArguing book undone lemmas s → IsArguing book undone lemmas t
knowing_settles ordered book undone lemmas s t settles knows =
    let filters = settling_filters None s.engine settles.revisions t.engine settles.settles in
    record {
      searching = settles_keep reasons_right ordered s t settles knows.searching;
      scoped = run_scoped s.engine filters.steps t.engine filters.run knows.searching.valid knows.scoped;
      initial = filters.initial ∙ knows.initial;
      users = listed_same book s.engine.active t.engine.active filters.active knows.users;
      given = given_settles ordered undone lemmas s t settles knows.given;
    }

decides_knowing : (guided : Bool) (book : Contents) (undone : List Pair) (lemmas : List LemmaData) (s : SearchState) (pair : Pair) (pick : Pick) (t : SearchState) → Decides guided s pair pick t
    → IsArguing book undone lemmas s → IsArguing book undone lemmas t
decides_knowing guided book undone lemmas s pair pick t turn knows = record {
  searching = takes_keep guided s (TurnDecide pair pick) t turn knows.searching;
  scoped = posts_scoped s.engine t.engine (decision_of pair) turn.posts knows.scoped;
  initial = ap (λ (z : EngineState). z.initial) turn.posts.after ∙ knows.initial;
  users = listed_posts book s.engine t.engine (decision_of pair) refl turn.posts knows.users;
  given = given_decides guided undone lemmas s pair pick t turn knows.given;
}

undoes_knowing : (guided : Bool) (book : Contents) (undone : List Pair) (lemmas : List LemmaData) (s : SearchState) (gone : Pair) (conflict : List Cid) (t : SearchState) → Undoes s gone conflict t
    → IsArguing book undone lemmas s → IsArguing book (undone ++ gone ∷ []) (lemmas ++ lemma_data s conflict ∷ []) t
undoes_knowing guided book undone lemmas s gone conflict t turn knows =
    let negation = negation_of gone (without_cid (Decide gone.var) conflict) in
    let names = gone_with s.engine.active (Decide gone.var) in
    record {
      searching = takes_keep guided s (TurnUndo gone conflict) t turn knows.searching;
      scoped = posts_scoped turn.middle t.engine negation turn.posts (withdraws_scoped s.engine turn.middle names turn.withdraws knows.scoped);
      initial = ap (λ (z : EngineState). z.initial) turn.posts.after ∙ ap (λ (z : EngineState). z.initial) turn.withdraws.after ∙ knows.initial;
      users = listed_posts book turn.middle t.engine negation refl turn.posts (λ a m user.
          knows.users a (without_cids_member names s.engine.active a (subst (λ (z : EngineState). Contains z.active a) turn.withdraws.after m)).0 user);
      given = given_undoes undone lemmas s gone conflict t turn knows.searching knows.given;
    }

pub knowing_decides : (guided ordered : Bool) (book : Contents) (undone : List Pair) (lemmas : List LemmaData) (s : SearchState) (pair : Pair) (pick : Pick) (t : SearchState) → Follows guided ordered s (TurnDecide pair pick) t
    → IsArguing book undone lemmas s → IsArguing book undone lemmas t
knowing_decides guided ordered book undone lemmas s pair pick t follows knows =
    knowing_settles ordered book undone lemmas follows.middle t follows.settles (decides_knowing guided book undone lemmas s pair pick follows.middle follows.takes knows)

pub knowing_undoes : (guided ordered : Bool) (book : Contents) (undone : List Pair) (lemmas : List LemmaData) (s : SearchState) (gone : Pair) (conflict : List Cid) (t : SearchState) → Follows guided ordered s (TurnUndo gone conflict) t
    → IsArguing book undone lemmas s → IsArguing book (undone ++ gone ∷ []) (lemmas ++ lemma_data s conflict ∷ []) t
knowing_undoes guided ordered book undone lemmas s gone conflict t follows knows =
    knowing_settles ordered book (undone ++ gone ∷ []) (lemmas ++ lemma_data s conflict ∷ []) follows.middle t follows.settles (undoes_knowing guided book undone lemmas s gone conflict follows.middle follows.takes knows)
