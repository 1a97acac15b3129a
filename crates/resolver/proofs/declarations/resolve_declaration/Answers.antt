use Rattle.std.proofs.Common.{rules}
use Rattle.std.proofs.lemmas.Result.{err_from_is_err_and}
use Rattle.resolver.proofs.Entering.{setting_within, type_setting, decl_shape, no_type, axiom_written, body_setting, no_body, def_written}
use Rattle.resolver.proofs.declarations.resolve_declaration.Goals as goal

pub bounds-tree-at : goal.bounds-tree-at
bounds-tree-at c = let h = setting_within _ _ c.requires.ready.setting in search rules

pub resolve_term-requires-clause-ready : goal.resolve_term-requires-clause-ready
resolve_term-requires-clause-ready c = record { globals = _; scope = _; expr = _; rest = _; setting = type_setting _ _ c.requires.ready.setting }

pub returns-in_err-a_type : goal.returns-in_err-a_type
returns-in_err-a_type c gs d rest s =
    let p = err_from_is_err_and c.from_residual.result c.from_residual.ensures.1 in
    let w = (c.in_err-a_type.ensures gs _ _ _ (type_setting d rest s)).0 in
    rw (p.1, p.2) (no_type d rest s w.0, w.1)

pub returns-then-tree-at : goal.returns-then-tree-at
returns-then-tree-at c gs d rest s = axiom_written s (decl_shape _ _ d rest s.stands s.plain) c.if-tree-at.true (c.in_ok-a_type.ensures gs _ _ _ (type_setting d rest s)).0

pub resolve_term-requires-2-clause-ready : goal.resolve_term-requires-2-clause-ready
resolve_term-requires-2-clause-ready c =
    let s = c.requires.ready.setting in
    record {
      globals = _;
      scope = _;
      expr = _;
      rest = _;
      setting = body_setting s (decl_shape _ _ _ _ s.stands s.plain) c.if-tree-at.false (c.in_ok-a_type.ensures _ _ _ _ (type_setting _ _ s)).0 c.resolve_term.auto.stack c.resolve_term.auto.out;
    }

pub returns-in_err-end : goal.returns-in_err-end
returns-in_err-end c gs d rest s =
    let p = err_from_is_err_and c.from_residual-in_err-end.result c.from_residual-in_err-end.ensures.1 in
    let k = decl_shape _ _ d rest s.stands s.plain in
    let w = (c.in_ok-a_type.ensures gs _ _ _ (type_setting d rest s)).0 in
    let v = (c.in_err-end.ensures gs _ _ _ (body_setting s k c.if-tree-at.false w c.resolve_term.auto.stack c.resolve_term.auto.out)).0 in
    rw (p.1, p.2) (no_body s k c.if-tree-at.false v.0, v.1)

pub returns : goal.returns
returns c gs d rest s =
    let k = decl_shape _ _ d rest s.stands s.plain in
    let w = (c.in_ok-a_type.ensures gs _ _ _ (type_setting d rest s)).0 in
    let b = body_setting s k c.if-tree-at.false w c.resolve_term.auto.stack c.resolve_term.auto.out in
    def_written s k c.if-tree-at.false w (c.in_ok-end.ensures gs _ _ _ b).0
