-- What the lines of a proof have said so far, which lines may follow, and what each adds.
use Rattle.std.specs.Prelude.{◌≡◌, List, [], ◌∷◌, ◌++◌, map, Contains, ⊤}
use Rattle.palm_base.specs.declared.terms.Pair.{Pair}
use Rattle.palm_base.specs.declared.terms.Cid.{Cid}
use Rattle.palm_base.specs.declared.terms.Cid.TheVariants.{User}
use Rattle.palm_book.specs.Book.{BookVar, Contents}
use Rattle.palm_book.specs.Named.{IsPair}
use Rattle.palm_book.specs.declared.book.BookCon.{BookCon}
use Rattle.palm_claim.specs.Own.{Books, Order}
use Rattle.palm_claim.specs.Step.{Given}
use Rattle.palm_claim.specs.declared.ground.Ground.{Ground}
use Rattle.palm_claim.specs.declared.ground.Ground.TheVariants.{By, Assumed, OfLemma}
use Rattle.proof_text.specs.Users.{AreUsed}
use Rattle.proof_text.specs.declared.lemma.Lemma.{Lemma}
use Rattle.proof_text.specs.declared.statement.NamedPair.{NamedPair}
use Rattle.proof_text.specs.declared.statement.Stage.{Stage}
use Rattle.proof_text.specs.declared.statement.Stage.TheVariants.{Unopened, Declaring, Listing, Reasoning, Wiped, Told, Closed}
use Rattle.proof_text.specs.declared.statement.ProofPhrase.{ProofPhrase}
use Rattle.proof_text.specs.declared.statement.ProofPhrase.TheVariants.{Header, Lemma as LemmaLine, Step, Wipe, Users, End}

-- a part of a proof: how far it has come, its variables and constraints, the lemmas that are done, and of the lemma begun
-- what it has so far, and the pair that each of its steps proved
pub record Draft : Type 0 where
  pub stage : Stage
  pub book : Contents
  pub lemmas : List Lemma
  pub begun : Lemma
  pub proved : List Pair

-- a lemma that has no step yet
abbrev pub unproved : List Pair → Lemma
unproved pairs = record { pairs = pairs; constraints = []; lemmas = [] }

-- nothing was said
abbrev pub blank : Draft
blank = record { stage = Unopened; book = record { variables = []; constraints = [] }; lemmas = []; begun = unproved []; proved = [] }

-- the book of a draft, and the draft with a longer one behind a variable or a constraint
abbrev pub books : Books Draft
books = record {
  book = λ d. d.book;
  declared = λ d book. record d { book = book };
  listed = λ d book. record d { stage = Listing; book = book };
}

-- what is given to the steps of the lemma begun
abbrev pub given_in : Draft → Given
given_in d = record { pairs = d.begun.pairs; lemmas = map (λ l. l.pairs) d.lemmas }

-- ---- the order of the lines

-- a constraint may stand there: behind the header and before the lemmas
abbrev pub MayList : Stage → Type 0
MayList Declaring = ⊤
MayList Listing = ⊤
MayList _ = ⊥

-- the phrase may stand there: the header first, then lemmas behind what is listed, each of which ends with its wipe, the users
-- and the end
abbrev pub MayFollow : Stage → ProofPhrase → Type 0
MayFollow stage Header = stage ≡ Unopened
MayFollow Declaring (LemmaLine pairs) = ⊤
MayFollow Listing (LemmaLine pairs) = ⊤
MayFollow Wiped (LemmaLine pairs) = ⊤
MayFollow stage (LemmaLine pairs) = ⊥
MayFollow stage (Step name value why) = stage ≡ Reasoning
MayFollow stage (Wipe name) = stage ≡ Reasoning
MayFollow stage (Users names) = stage ≡ Wiped
MayFollow (Told users) End = ⊤
MayFollow stage End = ⊥

-- and the draft decides by its stage
abbrev pub order : Order Draft ProofPhrase
order = record {
  MayDeclare = λ d. d.stage ≡ Declaring;
  MayList = λ d. MayList d.stage;
  MayFollow = λ d phrase. MayFollow d.stage phrase;
}

-- ---- what is behind a line

abbrev pub with_lemma : Draft → List Pair → Draft
with_lemma d pairs = record d { stage = Reasoning; begun = unproved pairs; proved = [] }

abbrev pub with_step : Draft → Pair → Lemma → Draft
with_step d pair lemma = record d { begun = lemma; proved = d.proved ++ pair ∷ [] }

abbrev pub with_wipe : Draft → Draft
with_wipe d = record d { stage = Wiped; lemmas = d.lemmas ++ d.begun ∷ [] }

abbrev pub at_stage : Draft → Stage → Draft
at_stage d stage = record d { stage = stage }

-- the users of constraints
abbrev pub users_of : List BookCon → List Cid
users_of constraints = map (λ c. User c.number) constraints

-- the pairs of the variables with these names
abbrev pub ArePairs : List BookVar → List NamedPair → List Pair → Type 0
ArePairs variables [] pairs = pairs ≡ []
ArePairs variables (n ∷ ns) pairs = (pair : Pair) × (rest : List Pair) × IsPair variables n.name n.value pair × (pairs ≡ pair ∷ rest) × ArePairs variables ns rest

-- the lemma begun, behind a step with the ground
abbrev pub Notes : Draft → Ground → Lemma → Type 0
Notes d (By name reasons) lemma = (c : BookCon) × Contains d.book.constraints c × (c.name ≡ name) × (lemma ≡ record d.begun { constraints = d.begun.constraints ++ c.number ∷ [] })
Notes d Assumed lemma = lemma ≡ d.begun
Notes d (OfLemma number) lemma = lemma ≡ record d.begun { lemmas = d.begun.lemmas ++ number ∷ [] }

-- the draft behind the phrase
abbrev pub Leads : Draft → ProofPhrase → Draft → Type 0
Leads d Header e = e ≡ at_stage d Declaring
Leads d (LemmaLine named) e = (pairs : List Pair) × ArePairs d.book.variables named pairs × (e ≡ with_lemma d pairs)
Leads d (Step name value why) e = (pair : Pair) × (lemma : Lemma) × IsPair d.book.variables name value pair × Notes d why lemma × (e ≡ with_step d pair lemma)
Leads d (Wipe name) e = e ≡ with_wipe d
Leads d (Users names) e = (used : List BookCon) × AreUsed d.book d.lemmas d.begun used × (e ≡ at_stage d (Told (users_of used)))
Leads d End e = (users : List Cid) × (d.stage ≡ Told users) × (e ≡ at_stage d (Closed users))
