use Rattle.std.proofs.Common.{◌≡◌, ℕ, ◌+◌, List, Some, arith, slice_get, subst, sym}
use Rattle.palm_base.specs.Order.{Rises}
use Rattle.palm_base.specs.declared.terms.Cid.TheVariants.{User}
use Rattle.palm_agenda.specs.Agenda.{Connected, connected_cids}
use Rattle.palm_agenda.proofs.Joined.{rises_behind, rises_front}
use Rattle.palm_agenda.proofs.Runs.{run_told}
use Rattle.palm_agenda.proofs.connections.Connections.run.Goals as goal

pub has_no_user-requires : goal.has_no_user-requires
has_no_user-requires c =
    subst (λ ds. Rises (connected_cids ds)) (sym c.deref.ensures.value) (rises_front c.self.inside.front.items c.self.inside.users.items (subst (λ ds. Rises (connected_cids ds)) (sym c.self.view_is) c.requires.rising))

pub first_of_run-requires : goal.first_of_run-requires
first_of_run-requires c =
    subst (λ ds. Rises (connected_cids ds)) (sym c.deref-2.ensures.value) (rises_behind c.self.inside.front.items c.self.inside.users.items (subst (λ ds. Rises (connected_cids ds)) (sym c.self.view_is) c.requires.rising))

pub returns : goal.returns
returns c =
    run_told c.self.inside.front.items c.self.inside.users.items c.args.self.now c.self.view_is
    (subst (λ (ds : List Connected). (k n : ℕ) → slice_get (connected_cids ds) k ≡ Some (User n) → ⊥) c.deref.ensures.value (c.has_no_user.ensures c.if-not-has_no_user.false))
    c.in_ok-first.first _ (omega arith) (omega (arith, c.self.inside.front.ok.0)) (omega (arith, c.self.inside.users.ok.0)) (omega (arith, c.len.ensures, c.self.inside.front.ok.0))
    (subst (λ (ds : List Connected). (k n : ℕ) → slice_get (connected_cids ds) k ≡ Some (User n) → n ≡ c.in_ok-first.first + k) c.deref-2.ensures.value c.in_ok-first.ensures)
