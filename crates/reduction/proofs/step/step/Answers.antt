use Rattle.std.proofs.Common.{◌≡◌, ◌+◌, ◌≤◌, [], length, refl, arith, rules}
use Rattle.std.proofs.lemmas.Result.{err_from_is_err_and}
use Rattle.reduction.specs.declared.step.StepError.TheVariants.{NoRoom}
use Rattle.reduction.proofs.Standing.{stands_in, ready_within}
use Rattle.reduction.proofs.Replacing.{slice_is, slice_findable, slice_contractible, redex_there, heap_at, redex_ends, stepped_words, too_long, unstepped, unmade, made_within}
use Rattle.reduction.proofs.step.step.Goals as goal

pub offset_bounds-heap-at : goal.offset_bounds-heap-at
offset_bounds-heap-at c = let (k, h) = ready_within c.requires in search rules

pub slice_bounds-find-end : goal.slice_bounds-find-end
slice_bounds-find-end c = let (k, h) = ready_within c.requires in search rules

pub find-requires : goal.find-requires
find-requires c = slice_findable c.args.env.index.now c.args.env.store.now c.args.heap.now c.args.at c.args.end (length c.args.stack.now) c.requires c.if-stack-end.false

pub returns-in_default : goal.returns-in_default
returns-in_default c = λ e t v s. (c.in_default.ensures e [] [] t v (slice_is c.args.heap.now c.args.at t c.args.end s) refl, unstepped c.args.heap.now c.args.at t c.args.end s)

pub offset_bounds-heap-at-2 : goal.offset_bounds-heap-at-2
offset_bounds-heap-at-2 c = let (k, h) = ready_within c.requires in search rules

pub slice_bounds-contract_into-end : goal.slice_bounds-contract_into-end
slice_bounds-contract_into-end c = let (k, h) = ready_within c.requires in search rules

pub contract_into-requires : goal.contract_into-requires
contract_into-requires c =
    let (u, is, x) = c.in-Some.ensures c.requires.env [] [] c.requires.term c.requires.env_at (slice_is c.args.heap.now c.args.at c.requires.term c.args.end c.requires.stands) refl in
    slice_contractible c.args.env.index.now c.args.env.store.now c.args.heap.now c.args.at c.args.end c.in-Some.place _ (omega arith) c.requires x

pub overflow_add-at : goal.overflow_add-at
overflow_add-at c =
    let (u, is, x) = c.in-Some.ensures c.requires.env [] [] c.requires.term c.requires.env_at (slice_is c.args.heap.now c.args.at c.requires.term c.args.end c.requires.stands) refl in
    let h : c.args.at + c.in-Some.place ≤ c.args.end = omega (arith, redex_ends c.requires.env c.args.heap.now c.args.at c.requires.term c.args.end c.in-Some.place _ c.requires.stands x) in
    search rules

pub replace-requires : goal.replace-requires
replace-requires c =
    let (u, is, x) = c.in-Some.ensures c.requires.env [] [] c.requires.term c.requires.env_at (slice_is c.args.heap.now c.args.at c.requires.term c.args.end c.requires.stands) refl in
    record {
      term = x.redex;
      rest = _;
      here = heap_at c.requires.env c.args.heap.now c.args.at c.requires.term c.args.end c.in-Some.place _ c.requires.stands x;
      before = omega (arith, redex_ends c.requires.env c.args.heap.now c.args.at c.requires.term c.args.end c.in-Some.place _ c.requires.stands x);
      within = stands_in c.args.heap.now c.args.at c.requires.term c.args.end c.requires.stands;
      room = made_within c.args.scratch.now c.contract_into.new.out x.result c.in_ok-made.made (c.in_ok-made.ensures c.requires.env x.redex x.result x.rest c.requires.env_at (redex_there c.requires.env _ _ c.in-Some.place x) x.steps);
    }

pub returns : goal.returns
returns c = λ e t v s.
    let (u, is, x) = c.in-Some.ensures e [] [] t v (slice_is c.args.heap.now c.args.at t c.args.end s) refl in
    let w = c.in_ok-made.ensures e x.redex x.result x.rest v (redex_there e _ _ c.in-Some.place x) x.steps in
    let r = c.replace.ensures x.redex _ (heap_at e c.args.heap.now c.args.at t c.args.end c.in-Some.place _ s x) in (
      u,
      is,
      stepped_words e c.args.heap.now c.replace.new.heap c.args.scratch.now c.contract_into.new.out c.args.at t u c.args.end c.in-Some.place c.in_ok-made.made c.in_ok-stop.stop s x w
          (rw c.in_ok-stop.ensures.ok_part at r),
    )

pub returns-in_err-made : goal.returns-in_err-made
returns-in_err-made c = λ e t v s.
    let (u, is, x) = c.in-Some.ensures e [] [] t v (slice_is c.args.heap.now c.args.at t c.args.end s) refl in
    let w = c.in_err-made.ensures e x.redex x.result x.rest v (redex_there e _ _ c.in-Some.place x) x.steps in
    let q = err_from_is_err_and c.from_residual.result c.from_residual.ensures.1 in
    rw (q.1, q.2) (unmade e _ c.args.heap.now c.args.scratch.now c.contract_into.new.out c.args.heap.now c.args.at t u c.in-Some.place (length c.find.new.stack) (length c.args.stack.now) c.in_err-made.field-0.0 is x c.find.auto.stack w)

pub returns-in_err-stop : goal.returns-in_err-stop
returns-in_err-stop c = λ e t v s.
    let (u, is, x) = c.in-Some.ensures e [] [] t v (slice_is c.args.heap.now c.args.at t c.args.end s) refl in
    let w = c.in_ok-made.ensures e x.redex x.result x.rest v (redex_there e _ _ c.in-Some.place x) x.steps in
    let r = c.replace.ensures x.redex _ (heap_at e c.args.heap.now c.args.at t c.args.end c.in-Some.place _ s x) in
    let q = err_from_is_err_and c.from_residual-in_err-stop.result c.from_residual-in_err-stop.ensures.1 in
    let k = rw c.in_err-stop.ensures.ok_part at c.in_err-stop.ensures.value in
    let y : c.in_err-stop.field-0.0 ≡ NoRoom = cc in
    rw (q.1, q.2, y) (
      u,
      is,
      too_long e c.args.heap.now c.args.scratch.now c.contract_into.new.out c.args.at t u c.args.end c.in-Some.place c.in_ok-made.made (length c.contract_into.new.out) s x w c.contract_into.auto.out
          (rw c.in_err-stop.ensures.ok_part at r),
    )
