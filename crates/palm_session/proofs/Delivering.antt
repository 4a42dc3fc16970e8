-- The texts that replies are written in, part by part.
use Rattle.std.proofs.Common.{◌≡◌, ℕ, ◌<◌, List, flat_map, get_or, ◌++◌, length, refl, sym, ap, ◌∙◌, append_assoc, arith, []}
use Rattle.std.proofs.Common.{ℤ, zip, option_to_list, append-nil, slice_get, Some, zero, suc, ◌∷◌}
use Rattle.std.proofs.lemmas.Option.{get_or_from_slice_get}
use Rattle.std.proofs.lemmas.Slice.Zip.{get_or-zip, length-zip}
use Rattle.palm_model.specs.Domains.{Domains, values_of}
use Rattle.palm_book.specs.Book.{BookVar, Contents, name_of}
use Rattle.palm_lang.specs.Reply.{best_line, domain_line, entry_line, entry_at, var_line, fixed_text}
use Rattle.palm_lang.specs.declared.reply.Fixed.TheVariants.{End}
use Rattle.palm_lang.specs.declared.reply.Lead.TheVariants.{Keep, Proved}
use Rattle.palm_base.specs.declared.terms.Cid.{Cid}
use Rattle.palm_session.specs.Answers.{least_text, left_text, list_text, preferred_text, users_text}
use Rattle.palm_book.specs.declared.book.BookCon.{BookCon}
use Rattle.palm_prefer.specs.declared.answer.LeftOut.{LeftOut}
use Rattle.palm_prefer.specs.declared.answer.Preferred.TheVariants.{Kept}
use Rattle.palm_cert.specs.Certificate.{certificate_text}
use Rattle.palm_claim.specs.declared.verdict.Claim.{Claim}
use Rattle.palm_model.specs.Log.{Removal}

slice_get_some : {X : Type 0} (xs : List X) (i : ℕ) → i < length xs → (x : X) × (slice_get xs i ≡ Some x)
slice_get_some [] i lt = absurd (omega (arith, lt))
slice_get_some (x ∷ xs) zero lt = (x, refl)
slice_get_some (x ∷ xs) (suc i) lt = slice_get_some xs i (omega (arith, lt))

-- the text of the constraint at a place
pub entry_read : (book : Contents) (i : ℕ) → i < length book.constraints → (e : BookCon) × (entry_at book i ≡ entry_line book.variables (get_or book.constraints i e))
entry_read book i lt =
    let r = slice_get_some book.constraints i lt in
    (r.0, ap (λ o. flat_map (entry_line book.variables) (option_to_list o)) r.1 ∙ append-nil _ ∙ ap (λ e. entry_line book.variables e) (sym (get_or_from_slice_get book.constraints i r.0 r.0 r.1)))

-- a variable with its values
pub pair_read : (variables : List BookVar) (d : Domains) (i : ℕ) → length d ≡ length variables → i < length variables
    → (i < length (zip variables d)) × (domain_line (name_of variables i) (values_of d i) ≡ domain_line ((get_or (zip variables d) i (record { name = []; values = [] }, [])).0.name) ((get_or (zip variables d) i (record { name = []; values = [] }, [])).1))
pair_read variables d i e lt =
    let both : i < length d = omega (arith, e) in (
      omega (arith, length-zip variables d, e),
      ap (λ (p : BookVar × List ℤ). domain_line p.0.name p.1) (sym (get_or-zip variables d i (record { name = []; values = [] }, []) lt both)),
    )

-- the text of a list begins with the variables
pub list_parts : (book : Contents)
    → flat_map (λ (e : BookVar). var_line e.name e.values) book.variables ++ (flat_map (entry_line book.variables) book.constraints ++ fixed_text End) ≡ list_text book
list_parts book =
    sym (append_assoc (flat_map (λ (e : BookVar). var_line e.name e.values) book.variables) (flat_map (entry_line book.variables) book.constraints) (fixed_text End))

-- the text of the best values begins with them
pub least_parts : (book : Contents) (values : List ℤ) (users : List Cid) → best_line book.variables values ++ (users_text book Proved users ++ fixed_text End) ≡ least_text book values users
least_parts book values users = sym (append_assoc (best_line book.variables values) (users_text book Proved users) (fixed_text End))

-- the text of what is preferred begins with what is kept
pub kept_parts : (book : Contents) (keep : List Cid) (left : List LeftOut) → users_text book Keep keep ++ (flat_map (left_text book) left ++ fixed_text End) ≡ preferred_text book (Kept keep left)
kept_parts book keep left = sym (append_assoc (users_text book Keep keep) (flat_map (left_text book) left) (fixed_text End))

-- ---- certificates

-- the same certificate
pub same_certificate : (a b : Contents) (k log : List Removal) (x y : Claim) → a ≡ b → k ≡ log → x ≡ y → certificate_text a k x ≡ certificate_text b log y
same_certificate a b k log x y book removals claim =
    ap (λ (z : Contents). certificate_text z k x) book ∙ ap (λ (z : List Removal). certificate_text b z x) removals
    ∙ ap (λ (z : Claim). certificate_text b log z) claim
