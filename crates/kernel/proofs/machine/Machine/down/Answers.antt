use Rattle.std.proofs.Common.{length, sym, arith}
use Rattle.std.specs.Prelude.{Ok, Err}
use Rattle.std.proofs.lemmas.Result.{err_from_is_err_and}
use Rattle.kernel.proofs.Places.{walk_core}
use Rattle.kernel.proofs.Views.{view, core_rest}
use Rattle.kernel.proofs.Moves.{before_at, before_within, frame-room, down_pi, down_lam, down_app, top_within, context_fits}
use Rattle.kernel.proofs.Tops.{var_turn, sort_turn, head_turn, core_level}
use Rattle.kernel.proofs.Falling.{enter_falls, entered}
use Rattle.kernel.proofs.machine.Machine.down.Goals as goal

pub sign_at-requires : goal.sign_at-requires
sign_at-requires c = record { term = _; rest = _; at = before_at c.requires.before }

pub enter-requires : goal.enter-requires
enter-requires c =
    let b = c.requires.before in
    record { room = omega (arith, frame-room b.kept); within = b.kept.frames_end; before = omega (arith, before_within b) }

pub enter-requires-in-Lam : goal.enter-requires-in-Lam
enter-requires-in-Lam c =
    let b = c.requires.before in
    record { room = omega (arith, frame-room b.kept); within = b.kept.frames_end; before = omega (arith, before_within b) }

pub enter-requires-in-App : goal.enter-requires-in-App
enter-requires-in-App c =
    let b = c.requires.before in
    record { room = omega (arith, frame-room b.kept); within = b.kept.frames_end; before = omega (arith, before_within b) }

pub variable_type-requires : goal.variable_type-requires
variable_type-requires c =
    let b = c.requires.before in
    record { context = context_fits b.way c.requires.given.sensible (omega arith) b.kept; order = top_within b.way b.kept }

pub sort_type-requires : goal.sort_type-requires
sort_type-requires c =
    let b = c.requires.before in
    record { small = core_level (view b.term (sym (c.in-Sort.ensures b.term _ (before_at b)))) (walk_core c.requires.given.sensible.core b.way); order = top_within b.way b.kept }

pub head_type-requires : goal.head_type-requires
head_type-requires c = top_within c.requires.before.way c.requires.before.kept

pub past-requires : goal.past-requires
past-requires c = omega (arith, before_within c.requires.before)

pub past-requires-in-Sort : goal.past-requires-in-Sort
past-requires-in-Sort c = omega (arith, before_within c.requires.before)

pub past-requires-in-Def : goal.past-requires-in-Def
past-requires-in-Def c = omega (arith, before_within c.requires.before)

pub returns-in-Pi-clause-turned : goal.returns-in-Pi-clause-turned
returns-in-Pi-clause-turned c k n b =
    entered c.enter.result c.enter.ensures.goes
    (down_pi b.way (view b.term (sym (c.in-Pi.ensures b.term _ (before_at b)))) b.kept b.at c.enter.ensures.pushed (omega arith))

pub returns-in-Pi-clause-falls : goal.returns-in-Pi-clause-falls
returns-in-Pi-clause-falls c = enter_falls _ _ c.args.spot _ c.enter.result c.enter.ensures (omega (arith, before_within c.requires.before))

pub returns-in-Lam-clause-turned : goal.returns-in-Lam-clause-turned
returns-in-Lam-clause-turned c k n b =
    entered c.enter-in-Lam.result c.enter-in-Lam.ensures.goes
    (down_lam b.way (view b.term (sym (c.in-Lam.ensures b.term _ (before_at b)))) b.kept b.at c.enter-in-Lam.ensures.pushed (omega arith))

pub returns-in-Lam-clause-falls : goal.returns-in-Lam-clause-falls
returns-in-Lam-clause-falls c = enter_falls _ _ c.args.spot _ c.enter-in-Lam.result c.enter-in-Lam.ensures (omega (arith, before_within c.requires.before))

pub returns-in-App-clause-turned : goal.returns-in-App-clause-turned
returns-in-App-clause-turned c k n b =
    entered c.enter-in-App.result c.enter-in-App.ensures.goes
    (down_app b.way (view b.term (sym (c.in-App.ensures b.term _ (before_at b)))) b.kept b.at c.enter-in-App.ensures.pushed (omega arith))

pub returns-in-App-clause-falls : goal.returns-in-App-clause-falls
returns-in-App-clause-falls c = enter_falls _ _ c.args.spot _ c.enter-in-App.result c.enter-in-App.ensures (omega (arith, before_within c.requires.before))

pub returns-in_default-clause-turned : goal.returns-in_default-clause-turned
returns-in_default-clause-turned c k n b =
    absurd (core_rest b.term c.sign_at.result (c.sign_at.ensures b.term _ (before_at b)) (walk_core n.sensible.core b.way)
    c.in_default.not-Pi c.in_default.not-Lam c.in_default.not-App c.in_default.not-Var c.in_default.not-Sort c.in_default.not-Def)

pub returns-in_ok-end-in-Var-clause-turned : goal.returns-in_ok-end-in-Var-clause-turned
returns-in_ok-end-in-Var-clause-turned c k n b =
    rw c.past.ensures
    (var_turn c.variable_type.new.heap c.args.spot (Ok c.in_ok-end-in-Var.end) n (top_within b.way b.kept) (omega arith) b.way (view b.term (sym (c.in-Var.ensures b.term _ (before_at b)))) b.kept b.at
    (c.in_ok-end-in-Var.ensures b.types b.kept.context_at b.kept.names_end))

pub returns-in_ok-end-in-Var-clause-falls : goal.returns-in_ok-end-in-Var-clause-falls
returns-in_ok-end-in-Var-clause-falls c = rw c.past.ensures (omega (arith, before_within c.requires.before))

pub returns-in_err-end-in-Var-clause-turned : goal.returns-in_err-end-in-Var-clause-turned
returns-in_err-end-in-Var-clause-turned c k n b =
    let (y, p, q) = err_from_is_err_and c.from_residual.result c.from_residual.ensures.1 in
    rw (p, q)
    (var_turn c.variable_type.new.heap c.args.spot (Err c.in_err-end-in-Var.field-0.0) n (top_within b.way b.kept) (omega arith) b.way (view b.term (sym (c.in-Var.ensures b.term _ (before_at b)))) b.kept b.at
    (c.in_err-end-in-Var.ensures b.types b.kept.context_at b.kept.names_end))

pub returns-in_err-end-in-Var-clause-falls : goal.returns-in_err-end-in-Var-clause-falls
returns-in_err-end-in-Var-clause-falls c =
    let (y, p, q) = err_from_is_err_and c.from_residual.result c.from_residual.ensures.1 in
    rw p (omega (arith, before_within c.requires.before))

pub returns-in_ok-end-in-Sort-clause-turned : goal.returns-in_ok-end-in-Sort-clause-turned
returns-in_ok-end-in-Sort-clause-turned c k n b =
    rw c.past-in-Sort.ensures
    (sort_turn c.sort_type.new.heap c.args.spot (Ok c.in_ok-end-in-Sort.end) n (top_within b.way b.kept) (omega arith) b.way (view b.term (sym (c.in-Sort.ensures b.term _ (before_at b)))) b.kept b.at
    (c.in_ok-end-in-Sort.ensures (length c.args.self.now.stack.now)))

pub returns-in_ok-end-in-Sort-clause-falls : goal.returns-in_ok-end-in-Sort-clause-falls
returns-in_ok-end-in-Sort-clause-falls c = rw c.past-in-Sort.ensures (omega (arith, before_within c.requires.before))

pub returns-in_err-end-in-Sort-clause-turned : goal.returns-in_err-end-in-Sort-clause-turned
returns-in_err-end-in-Sort-clause-turned c k n b =
    let (y, p, q) = err_from_is_err_and c.from_residual-in_err-end-in-Sort.result c.from_residual-in_err-end-in-Sort.ensures.1 in
    rw (p, q)
    (sort_turn c.sort_type.new.heap c.args.spot (Err c.in_err-end-in-Sort.field-0.0) n (top_within b.way b.kept) (omega arith) b.way (view b.term (sym (c.in-Sort.ensures b.term _ (before_at b)))) b.kept b.at
    (c.in_err-end-in-Sort.ensures (length c.args.self.now.stack.now)))

pub returns-in_err-end-in-Sort-clause-falls : goal.returns-in_err-end-in-Sort-clause-falls
returns-in_err-end-in-Sort-clause-falls c =
    let (y, p, q) = err_from_is_err_and c.from_residual-in_err-end-in-Sort.result c.from_residual-in_err-end-in-Sort.ensures.1 in
    rw p (omega (arith, before_within c.requires.before))

pub returns-in_ok-end-in-Def-clause-turned : goal.returns-in_ok-end-in-Def-clause-turned
returns-in_ok-end-in-Def-clause-turned c k n b =
    rw c.past-in-Def.ensures
    (head_turn c.head_type.new.heap c.args.spot (Ok c.in_ok-end-in-Def.end) n (top_within b.way b.kept) (omega arith) b.way (view b.term (sym (c.in-Def.ensures b.term _ (before_at b)))) b.kept b.at
    (c.in_ok-end-in-Def.ensures k.env (length c.args.self.now.stack.now) n.stored.at))

pub returns-in_ok-end-in-Def-clause-falls : goal.returns-in_ok-end-in-Def-clause-falls
returns-in_ok-end-in-Def-clause-falls c = rw c.past-in-Def.ensures (omega (arith, before_within c.requires.before))

pub returns-in_err-end-in-Def-clause-turned : goal.returns-in_err-end-in-Def-clause-turned
returns-in_err-end-in-Def-clause-turned c k n b =
    let (y, p, q) = err_from_is_err_and c.from_residual-in_err-end-in-Def.result c.from_residual-in_err-end-in-Def.ensures.1 in
    rw (p, q)
    (head_turn c.head_type.new.heap c.args.spot (Err c.in_err-end-in-Def.field-0.0) n (top_within b.way b.kept) (omega arith) b.way (view b.term (sym (c.in-Def.ensures b.term _ (before_at b)))) b.kept b.at
    (c.in_err-end-in-Def.ensures k.env (length c.args.self.now.stack.now) n.stored.at))

pub returns-in_err-end-in-Def-clause-falls : goal.returns-in_err-end-in-Def-clause-falls
returns-in_err-end-in-Def-clause-falls c =
    let (y, p, q) = err_from_is_err_and c.from_residual-in_err-end-in-Def.result c.from_residual-in_err-end-in-Def.ensures.1 in
    rw p (omega (arith, before_within c.requires.before))

pub returns-in_default-clause-falls : goal.returns-in_default-clause-falls
returns-in_default-clause-falls c = omega (arith, before_within c.requires.before)
