use Rattle.std.proofs.Common.{◌≡◌, get_or, rules, ◌+◌, Some, sym, subst as tr, arith}
use mathlib.Core.Option.{some}
use Rattle.reduction.specs.Lookup.{Finds}
use Rattle.reduction.specs.declared.store.Found.TheVariants.{Definition, Axiom, Inductive}
use Rattle.reduction.proofs.Storing.{beyond, room_body, finds_at, found_definition, found_axiom, found_data}
use Rattle.reduction.proofs.store.Environment.find_entry.Goals as goal

pub returns-in_err-place : goal.returns-in_err-place
returns-in_err-place c = λ e v. rw c.from_residual.ensures (beyond c.args.self.index.now c.args.self.store.now e c.args.number v c.in_err-place.ensures.finds)

pub overflow_add-found-in-0-2 : goal.overflow_add-found-in-0-2
overflow_add-found-in-0-2 c =
    let h = room_body c.args.self.index.now c.args.self.store.now c.args.number c.in_ok-place.place c.args.self.stored c.in_ok-place.ensures.finds.0 c.in_ok-place.ensures.finds.1 c.in-0.is in omega (arith, c.number_of-words.ensures)

pub returns-in-0 : goal.returns-in-0
returns-in-0 c = λ e v.
    finds_at c.args.self.index.now c.args.self.store.now e c.args.number c.in_ok-place.place (Some (Definition (c.in_ok-place.place + 3) (c.in_ok-place.place + 3 + c.number_of-words.result))) v c.in_ok-place.ensures.finds.0 c.in_ok-place.ensures.finds.1
    (λ d x. tr (λ k. Finds c.args.self.store.now (some d) (Some (Definition (c.in_ok-place.place + 3) (c.in_ok-place.place + 3 + k)))) (sym c.number_of-words.ensures) (found_definition c.args.self.store.now c.in_ok-place.place d x c.in-0.is))

pub returns-in-1 : goal.returns-in-1
returns-in-1 c = λ e v.
    finds_at c.args.self.index.now c.args.self.store.now e c.args.number c.in_ok-place.place (Some (Axiom (c.in_ok-place.place + 3))) v c.in_ok-place.ensures.finds.0 c.in_ok-place.ensures.finds.1
    (λ d x. found_axiom c.args.self.store.now c.in_ok-place.place d x c.in-1.is)

pub returns-in_default : goal.returns-in_default
returns-in_default c = λ e v.
    let m : get_or c.args.self.store.now c.in_ok-place.place 0 ≡ 0 → ⊥ = search rules in
    let n : get_or c.args.self.store.now c.in_ok-place.place 0 ≡ 1 → ⊥ = search rules in
    finds_at c.args.self.index.now c.args.self.store.now e c.args.number c.in_ok-place.place (Some (Inductive c.in_ok-place.place)) v c.in_ok-place.ensures.finds.0 c.in_ok-place.ensures.finds.1
    (λ d x. found_data c.args.self.store.now c.in_ok-place.place d x m n)
