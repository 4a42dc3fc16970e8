-- A name is looked up among the sessions of a hub.
use Rattle.std.proofs.Common.{◌≡◌, ◌≢◌, ℕ, suc, ◌+◌, ◌<◌, ◌≤◌, Bool, true, false, List, [], ◌∷◌, ◌++◌, length, take, drop, get_or, All, Contains, refl, sym, ap, ◌∙◌, subst, arith, length-take, drop-cons, add-one}
use Rattle.std.specs.List.{HoldsAt}
use Rattle.std.proofs.lemmas.List.{length-map, map-append, take-append-drop}
use Rattle.std.proofs.lemmas.List.Elements.{All-map, All-push}
use Rattle.palm_base.proofs.cited.Members.{member_map}
use Rattle.palm_session.specs.State.{fresh}
use Rattle.palm_hub.specs.Hub.{Admits, Opened, opened}
use Rattle.palm_hub.specs.Hub.Admits.{stays, opens}
use Rattle.palm_hub.specs.Hub.HubAnswers.{is_over, is_full}
use Rattle.palm_hub.specs.Standing.{Member, opened_of, sessions_of}
use Rattle.palm_hub.specs.Stepping.{Admitted, IsFresh, Refuses}
use Rattle.palm_hub.specs.declared.limits.TheConstants.{MOST_SESSIONS}
use Rattle.palm_hub.specs.declared.refusal.Refusal.TheVariants.{TooMany, Over}

-- ---- a session that was found

module _ {G O : Type 0} (members : List (Member G O)) (m : Member G O) (name : List ℕ) (place : ℕ) where
  abbrev IsNamedAt : Type 0
  IsNamedAt = (place < length members) × HoldsAt (λ (x : Member G O). x.name ≡ name) members place

  named_at : IsNamedAt → m ≡ get_or members place m → m.name ≡ name
  named_at found at = ap (λ (x : Member G O). x.name) at ∙ found.1 m

  -- it is among the sessions
  is_among : (over : Bool) → IsNamedAt → m ≡ get_or members place m → m.session.over ≡ over
      → Contains (sessions_of members) (opened name m.session.state over)
  is_among over found at is =
      let here : Contains members m = (place, found.0, sym at) in
      let among : Contains (sessions_of members) (opened m.name m.session.state m.session.over) =
      member_map opened_of members m here in
      subst (λ (n : List ℕ). Contains (sessions_of members) (opened n m.session.state over)) (named_at found at)
      (subst (λ (b : Bool). Contains (sessions_of members) (opened m.name m.session.state b)) is among)

  -- it is over, and each line for it is refused
  pub over_refused : IsNamedAt → m ≡ get_or members place m → m.session.over ≡ true → Refuses (sessions_of members) name Over
  over_refused found at over = λ bytes line addresses. is_over addresses m.session.state (is_among true found at over)

  -- it goes on
  pub found_admitted : IsNamedAt → m ≡ get_or members place m → m.session.over ≡ false → Admitted members name place members
  found_admitted found at going =
      let inside : place < length members = found.0 in
      let behind : drop place members ≡ m ∷ drop (place + 1) members =
      rw add-one (drop-cons members place m inside ∙ ap (λ (x : Member G O). x ∷ drop (suc place) members) (sym at)) in
      record {
        front = take place members;
        at = m;
        back = drop (place + 1) members;
        whole = sym (take-append-drop place members) ∙ ap (λ (z : List (Member G O)). take place members ++ z) behind;
        placed = omega (arith, length-take place members, inside);
        named = named_at found at;
        going = going;
        admits = stays m.session.state (is_among false found at going);
        idle = λ idle. idle;
      }

-- ---- a name that no session has

new_name : {G O : Type 0} (members : List (Member G O)) (name : List ℕ) → All (λ m. m.name ≢ name) members
    → All (λ o. o.name ≢ name) (sessions_of members)
new_name members name none = All-map (λ (o : Opened). o.name ≢ name) opened_of members none

-- too many sessions are there, and each line for it is refused
pub full_refused : {G O : Type 0} (members : List (Member G O)) (name : List ℕ) → All (λ m. m.name ≢ name) members
    → MOST_SESSIONS ≤ length members
    → Refuses (sessions_of members) name TooMany
full_refused members name none full = λ bytes line addresses. is_full addresses (new_name members name none)
    (omega (arith, full, length-map members opened_of))

-- a session that was just opened holds nothing
fresh_opened : {G O : Type 0} (m : Member G O) (name : List ℕ) → IsFresh m name → opened_of m ≡ opened name (fresh [] []) false
fresh_opened m name f =
    ap (λ n. opened n m.session.state m.session.over) f.named ∙ ap (λ s. opened name s m.session.over) f.state
    ∙ ap (λ b. opened name (fresh [] []) b) f.going

-- a session was opened
pub opened_admitted : {G O : Type 0} (members : List (Member G O)) (m : Member G O) (name : List ℕ)
    → All (λ x. x.name ≢ name) members → length members < MOST_SESSIONS
    → IsFresh m name → Admitted members name (length members) (members ++ m ∷ [])
opened_admitted {G} {O} members m name none room f =
    let more : sessions_of (members ++ m ∷ []) ≡ sessions_of members ++ opened name (fresh [] []) false ∷ [] =
    map-append opened_of members (m ∷ []) ∙ ap (λ (o : Opened). sessions_of members ++ o ∷ []) (fresh_opened m name f) in
    record {
      front = members;
      at = m;
      back = [];
      whole = refl;
      placed = refl;
      named = f.named;
      going = f.going;
      admits = subst (Admits (sessions_of members) name) (sym more)
          (opens (new_name members name none) (omega (arith, room, length-map members opened_of)));
      idle = λ idle. All-push (λ (x : Member G O). x.session.over ≡ false → x.session.unfinished ≡ []) members m idle
          (λ going. f.kept);
    }
