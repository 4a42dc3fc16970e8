-- A book stays within the limits of the language when it changes.
use Rattle.std.proofs.Common.{◌≡◌, ◌≢◌, ℕ, zero, suc, ◌+◌, ◌<◌, ◌≤◌, Bool, true, false, eqb, List, [], ◌∷◌, ◌++◌, length, map, get_or, take, drop, All, AllPairs, Option, Some, IfSome, slice_get, remove, refl, sym, ap, ◌∙◌, subst, arith, length-append}
use Rattle.std.proofs.lemmas.List.{get_or-map, length-map, map-append, take-map, drop-map}
use Rattle.std.proofs.lemmas.List.Elements.{All-push, All-append, All-take, All-drop, All-map, All-from_recursion, recursion_from_All}
use Rattle.std.proofs.lemmas.List.Quantifiers.{all_pairs_push, all_pairs_remove}
use Rattle.std.proofs.lemmas.List.Edits.{length-remove}
use Rattle.std.proofs.lemmas.Option.{same_Some, none-some, slice_get_within, get_or_from_slice_get}
use Rattle.std.proofs.lemmas.Bool.{eq-eqb, ne_eqb}
use Rattle.std.specs.List.{AllByRecursion}
use Rattle.indexmap.specs.IndexMap.{set_value_at}
use Rattle.palm_book.specs.Book.{BookVar, Contents, name_of, number_name, with_active, AreValues, IsBook}
use Rattle.palm_read.specs.Name.{IsNameText}
use Rattle.palm_book.specs.declared.book.BookCon.{BookCon}
use Rattle.palm_book.specs.declared.limits.TheConstants.{MOST_VARIABLES, MOST_CONSTRAINTS}
use Rattle.palm_model.specs.declared.constraint.Con.{Con}
use Rattle.palm_model.specs.Constraint.{IsWellFormed}

-- a constraint may have more variables to be over
pub IsWellFormed-more : (m n : ℕ) (c : Con) → m ≤ n → IsWellFormed m c → IsWellFormed n c
IsWellFormed-more m n c le w = record {
  declared = λ k d h. let p = w.declared k d h in omega arith;
  distinct = w.distinct;
  some = w.some;
  few = w.few;
  shaped = w.shaped;
}

pub length-with_active : (cs : List BookCon) (place : ℕ) (active : Bool) → length (with_active cs place active) ≡ length cs
length-with_active [] place active = refl
length-with_active (c ∷ cs) zero active = refl
length-with_active (c ∷ cs) (suc place) active = ap suc (length-with_active cs place active)

-- all but the activity of two constraints
pub record SameBut (c d : BookCon) : Type 0 where
  pub number : c.number ≡ d.number
  pub name : c.name ≡ d.name
  pub con : c.con ≡ d.con

pub SameBut-self : (c : BookCon) → SameBut c c
SameBut-self c = record { number = refl; name = refl; con = refl }

pub SameBut-with_active : (cs : List BookCon) (place : ℕ) (active : Bool) (k : ℕ) (d : BookCon) → SameBut (get_or (with_active cs place active) k d) (get_or cs k d)
SameBut-with_active [] place active k d = SameBut-self d
SameBut-with_active (c ∷ cs) zero active zero d = record { number = refl; name = refl; con = refl }
SameBut-with_active (c ∷ cs) zero active (suc k) d = SameBut-self (get_or cs k d)
SameBut-with_active (c ∷ cs) (suc place) active zero d = SameBut-self c
SameBut-with_active (c ∷ cs) (suc place) active (suc k) d = SameBut-with_active cs place active k d

-- a write of the constraint at a place with another activity
pub values-with_active : (es : List (List ℕ × BookCon)) (place : ℕ) (active : Bool) (c : BookCon) → slice_get (map (λ e. e.1) es) place ≡ Some c → map (λ e. e.1) (set_value_at es place (record c { active = active })) ≡ with_active (map (λ e. e.1) es) place active
values-with_active [] place active c is = refl
values-with_active (e ∷ es) zero active c is = subst (λ (x : BookCon). record x { active = active } ∷ map (λ (e : List ℕ × BookCon). e.1) es ≡ record e.1 { active = active } ∷ map (λ (e : List ℕ × BookCon). e.1) es) (same_Some e.1 c is) refl
values-with_active (e ∷ es) (suc place) active c is = ap (λ (cs : List BookCon). e.1 ∷ cs) (values-with_active es place active c is)

pub All-remove : {X : Type 0} (P : X → Type 0) (xs : List X) (place : ℕ) → All P xs → All P (remove xs place)
All-remove P xs place h = All-append P _ _ (All-take P place xs h) (All-drop P (suc place) xs h)

-- each key is the name of its constraint
abbrev pub AreKeyed : List (List ℕ × BookCon) → Type 0
AreKeyed es = All (λ e. e.0 ≡ e.1.name) es

keyed-with_active_from : (es : List (List ℕ × BookCon)) (place : ℕ) (active : Bool) (c : BookCon) → slice_get (map (λ e. e.1) es) place ≡ Some c → AllByRecursion (λ e. e.0 ≡ e.1.name) es → AllByRecursion (λ e. e.0 ≡ e.1.name) (set_value_at es place (record c { active = active }))
keyed-with_active_from [] place active c is keyed = tt
keyed-with_active_from (e ∷ es) zero active c is keyed = (keyed.0 ∙ ap (λ (x : BookCon). x.name) (same_Some e.1 c is), keyed.1)
keyed-with_active_from (e ∷ es) (suc place) active c is keyed = (keyed.0, keyed-with_active_from es place active c is keyed.1)

pub AreKeyed-with_active : (es : List (List ℕ × BookCon)) (place : ℕ) (active : Bool) (c : BookCon) → slice_get (map (λ e. e.1) es) place ≡ Some c → AreKeyed es → AreKeyed (set_value_at es place (record c { active = active }))
AreKeyed-with_active es place active c is keyed =
    All-from_recursion (λ e. e.0 ≡ e.1.name) _ (keyed-with_active_from es place active c is (recursion_from_All (λ e. e.0 ≡ e.1.name) es keyed))

pub AreKeyed-push : (es news : List (List ℕ × BookCon)) (name : List ℕ) (c : BookCon) → AreKeyed es → name ≡ c.name → news ≡ es ++ (name, c) ∷ [] → AreKeyed news
AreKeyed-push es news name c keyed is added = subst AreKeyed (sym added) (All-push (λ e. e.0 ≡ e.1.name) es (name, c) keyed is)

pub AreKeyed-remove : (es news : List (List ℕ × BookCon)) (place : ℕ) → AreKeyed es → news ≡ remove es place → AreKeyed news
AreKeyed-remove es news place keyed taken = subst AreKeyed (sym taken) (All-remove (λ e. e.0 ≡ e.1.name) es place keyed)

-- what is said of the names of constraints is said of their keys
pub keys_fresh : (es : List (List ℕ × BookCon)) (name key : List ℕ) → AreKeyed es → key ≡ name → All (λ c. c.name ≢ name) (map (λ e. e.1) es) → All (λ e. e.0 ≢ key) es
keys_fresh es name key keyed is fresh = λ k d lt e.
    let at : (get_or (map (λ (e : List ℕ × BookCon). e.1) es) k d.1).name ≢ name = fresh k d.1 (omega (arith, length-map es (λ (e : List ℕ × BookCon). e.1))) in
    at (ap (λ (c : BookCon). c.name) (get_or-map (λ (e : List ℕ × BookCon). e.1) es k d d.1 lt) ∙ sym (keyed k d lt) ∙ e ∙ is)

-- and the other way round
pub names_fresh : (es : List (List ℕ × BookCon)) (name : List ℕ) → AreKeyed es → All (λ e. e.0 ≢ name) es → All (λ c. c.name ≢ name) (map (λ e. e.1) es)
names_fresh es name keyed fresh = All-map (λ (c : BookCon). c.name ≢ name) (λ (e : List ℕ × BookCon). e.1) es (λ k d lt e. fresh k d lt (keyed k d lt ∙ e))

pub map-remove : {X Y : Type 0} (f : X → Y) (xs : List X) (place : ℕ) → map f (remove xs place) ≡ remove (map f xs) place
map-remove {Y = Y} f xs place = map-append f (take place xs) (drop (suc place) xs) ∙ ap (λ (ys : List Y). ys ++ map f (drop (suc place) xs)) (sym (take-map f place xs)) ∙ ap (λ (ys : List Y). take place (map f xs) ++ ys) (sym (drop-map f (suc place) xs))

-- a variable that was found among what a book is made of
pub name_of_found : {X : Type 0} (entry : X → BookVar) (xs : List X) (place : ℕ) (name : List ℕ) → IfSome (slice_get xs place) (λ x. (entry x).name ≡ name) → place < length xs → (place < length (map entry xs)) × (name_of (map entry xs) place ≡ name)
name_of_found entry [] place name h within = absurd (omega arith)
name_of_found entry (x ∷ xs) zero name h within = (omega arith, h)
name_of_found entry (x ∷ xs) (suc place) name h within =
    let rest = name_of_found entry xs place name h (omega arith) in
    (let lt = rest.0 in omega arith, rest.1)

-- what holds of each constraint holds of the one at a place
pub holds_at : (P : BookCon → Type 0) (es : List (List ℕ × BookCon)) (place : ℕ) (c : BookCon) → place < length es → IfSome (slice_get es place) (λ e. e.1 ≡ c) → All P (map (λ e. e.1) es) → P c
holds_at P [] place c within at h = absurd (omega arith)
holds_at P (e ∷ es) zero c within at h = subst P at (h 0 c (omega arith))
holds_at P (e ∷ es) (suc place) c within at h = holds_at P es place c (omega arith) at (λ k d lt. h (suc k) d (omega arith))

-- the constraint at a place, among the constraints alone
pub constraint_at : (es : List (List ℕ × BookCon)) (place : ℕ) (c : BookCon) → place < length es → IfSome (slice_get es place) (λ e. e.1 ≡ c) → slice_get (map (λ e. e.1) es) place ≡ Some c
constraint_at [] place c within at = absurd (omega arith)
constraint_at (e ∷ es) zero c within at = ap Some at
constraint_at (e ∷ es) (suc place) c within at = constraint_at es place c (omega arith) at

-- the name of the constraint with a number, where numbers rise
pub number_name_at : (cs : List BookCon) (place number : ℕ) (c : BookCon) → AllPairs (λ c d. c.number < d.number) cs → slice_get cs place ≡ Some c → IfSome (slice_get cs place) (λ d. d.number ≡ number) → c.name ≡ number_name cs number
number_name_at cs place number c rising at is = numbered cs place number c rising at (subst (λ (o : Option BookCon). IfSome o (λ d. d.number ≡ number)) at is)
  where
    numbered : (cs : List BookCon) (place number : ℕ) (c : BookCon) → AllPairs (λ c d. c.number < d.number) cs → slice_get cs place ≡ Some c → c.number ≡ number → c.name ≡ number_name cs number
    numbered [] place number c rising at is = absurd (none-some c at)
    numbered (b ∷ cs) zero number c rising at is =
        let same : b ≡ c = same_Some b c at in
        let here : eqb b.number number ≡ true = eq-eqb b.number number (ap (λ (x : BookCon). x.number) same ∙ is) in
        rw here (sym (ap (λ (x : BookCon). x.name) same))
    numbered (b ∷ cs) (suc place) number c rising at is =
        let within : place < length cs = slice_get_within cs place c at in
        let below : b.number < (get_or cs place c).number = rising 0 (suc place) c (omega arith) (omega arith) in
        let found : get_or cs place c ≡ c = get_or_from_slice_get cs place c c at in
        let other : eqb b.number number ≡ false = ne_eqb b.number number (λ e. absurd (omega (arith, ap (λ (x : BookCon). x.number) found))) in
        rw other (numbered cs place number c (λ i j d lt h. rising (suc i) (suc j) d (omega arith) (omega arith)) at is)

-- what is known of the book is known of its fields
module _ (fields book : Contents) (seen : fields ≡ book) (is_book : IsBook fields) where
  pub IsBook-with_variable : (e : BookVar) (variables : List BookVar) → IsNameText e.name → All (λ f. f.name ≢ e.name) book.variables → AreValues e.values → length book.variables < MOST_VARIABLES → variables ≡ fields.variables ++ e ∷ [] → IsBook (record fields { variables = variables })
  IsBook-with_variable e variables text fresh values room added = subst (λ (vs : List BookVar). IsBook (record fields { variables = vs })) (sym added) by
    where
      by : IsBook (record fields { variables = fields.variables ++ e ∷ [] })
      by =
          let more : length (fields.variables ++ e ∷ []) ≡ length fields.variables + 1 = length-append fields.variables (e ∷ []) in
          let few : length fields.variables < MOST_VARIABLES = subst (λ (b : Contents). length b.variables < MOST_VARIABLES) (sym seen) room in
          let new : All (λ f. f.name ≢ e.name) fields.variables = subst (λ (b : Contents). All (λ f. f.name ≢ e.name) b.variables) (sym seen) fresh in
          record {
            few_constraints = is_book.few_constraints;
            constraint_names = is_book.constraint_names;
            different_constraints = is_book.different_constraints;
            rising = is_book.rising;
            few_variables = omega arith;
            variable_names = All-push (λ f. IsNameText f.name) fields.variables e is_book.variable_names text;
            values = All-push (λ f. AreValues f.values) fields.variables e is_book.values values;
            different_variables = all_pairs_push (λ f g. f.name ≢ g.name) fields.variables e is_book.different_variables new;
            formed = λ k d h. IsWellFormed-more (length fields.variables) _ _ (omega arith) (is_book.formed k d h);
          }

  pub IsBook-with_constraint : (c : BookCon) (constraints : List BookCon) → IsNameText c.name → All (λ d. d.name ≢ c.name) book.constraints → All (λ d. d.number < c.number) book.constraints → IsWellFormed (length book.variables) c.con → length book.constraints < MOST_CONSTRAINTS → constraints ≡ fields.constraints ++ c ∷ [] → IsBook (record fields { constraints = constraints })
  IsBook-with_constraint c constraints text fresh rising formed room added = subst (λ (cs : List BookCon). IsBook (record fields { constraints = cs })) (sym added) by
    where
      by : IsBook (record fields { constraints = fields.constraints ++ c ∷ [] })
      by =
          let cs = fields.constraints in
          let more : length (cs ++ c ∷ []) ≡ length cs + 1 = length-append cs (c ∷ []) in
          let few : length cs < MOST_CONSTRAINTS = subst (λ (b : Contents). length b.constraints < MOST_CONSTRAINTS) (sym seen) room in
          let new : All (λ d. d.name ≢ c.name) cs = subst (λ (b : Contents). All (λ d. d.name ≢ c.name) b.constraints) (sym seen) fresh in
          let above : All (λ d. d.number < c.number) cs = subst (λ (b : Contents). All (λ d. d.number < c.number) b.constraints) (sym seen) rising in
          let over : IsWellFormed (length fields.variables) c.con = subst (λ (b : Contents). IsWellFormed (length b.variables) c.con) (sym seen) formed in
          record {
            few_variables = is_book.few_variables;
            variable_names = is_book.variable_names;
            values = is_book.values;
            different_variables = is_book.different_variables;
            few_constraints = omega arith;
            constraint_names = All-push (λ d. IsNameText d.name) cs c is_book.constraint_names text;
            different_constraints = all_pairs_push (λ d e. d.name ≢ e.name) cs c is_book.different_constraints new;
            rising = all_pairs_push (λ d e. d.number < e.number) cs c is_book.rising above;
            formed = All-push (λ d. IsWellFormed (length fields.variables) d.con) cs c is_book.formed over;
          }

  pub IsBook-with_active : (place : ℕ) (active : Bool) (constraints : List BookCon) → constraints ≡ with_active fields.constraints place active → IsBook (record fields { constraints = constraints })
  IsBook-with_active place active constraints changed = subst (λ (cs : List BookCon). IsBook (record fields { constraints = cs })) (sym changed) by
    where
      by : IsBook (record fields { constraints = with_active fields.constraints place active })
      by =
          let cs = fields.constraints in
          let len = length-with_active cs place active in
          let same = SameBut-with_active cs place active in
          record {
            few_variables = is_book.few_variables;
            variable_names = is_book.variable_names;
            values = is_book.values;
            different_variables = is_book.different_variables;
            few_constraints = let few = is_book.few_constraints in omega arith;
            constraint_names = λ k d h. subst IsNameText (sym (same k d).name) (is_book.constraint_names k d (omega arith));
            different_constraints = λ i j d lt h e. is_book.different_constraints i j d lt (omega arith) (sym (same i d).name ∙ e ∙ (same j d).name);
            rising = λ i j d lt h. let below = is_book.rising i j d lt (omega arith) in omega (arith, (same i d).number, (same j d).number);
            formed = λ k d h. subst (IsWellFormed (length fields.variables)) (sym (same k d).con) (is_book.formed k d (omega arith));
          }

  pub IsBook-without : (place : ℕ) (constraints : List BookCon) → place < length book.constraints → constraints ≡ remove fields.constraints place → IsBook (record fields { constraints = constraints })
  IsBook-without place constraints h taken = subst (λ (cs : List BookCon). IsBook (record fields { constraints = cs })) (sym taken) by
    where
      by : IsBook (record fields { constraints = remove fields.constraints place })
      by =
          let cs = fields.constraints in
          let within : place < length cs = subst (λ (b : Contents). place < length b.constraints) (sym seen) h in
          let len = length-remove cs place within in
          record {
            few_variables = is_book.few_variables;
            variable_names = is_book.variable_names;
            values = is_book.values;
            different_variables = is_book.different_variables;
            few_constraints = let few = is_book.few_constraints in omega arith;
            constraint_names = All-remove (λ c. IsNameText c.name) cs place is_book.constraint_names;
            different_constraints = all_pairs_remove (λ d e. d.name ≢ e.name) cs place within is_book.different_constraints;
            rising = all_pairs_remove (λ d e. d.number < e.number) cs place within is_book.rising;
            formed = All-remove (λ c. IsWellFormed (length fields.variables) c.con) cs place is_book.formed;
          }
