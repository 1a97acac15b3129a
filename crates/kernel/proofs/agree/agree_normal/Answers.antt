use Rattle.std.proofs.Common.{length, arith}
use Rattle.std.proofs.lemmas.Result.{err_from_is_err_and}
use Rattle.kernel.proofs.Reduced.{stands_within}
use Rattle.kernel.proofs.Tops.{appended_stands}
use Rattle.kernel.proofs.Agreeing.{stands_at, stands_holds, pair, normal_compares, normal_limited}
use Rattle.kernel.proofs.agree.agree_normal.Goals as goal

pub to_normal-requires : goal.to_normal-requires
to_normal-requires c =
    let p = c.requires in
    record {
      env = p.env;
      term = p.left;
      scope = p.scope;
      env_at = p.env_at.at;
      closed = p.closed;
      stands = appended_stands _ _ _ _ p.left p.within (rw c.in_ok-last.ensures.ok_part at (c.copy_above.ensures p.left p.rest p.left_at));
      scoped = p.left_scoped;
      few = p.few;
    }

pub equal-requires : goal.equal-requires
equal-requires c =
    let p = c.requires in
    let a = rw c.in_ok-last.ensures.ok_part at (c.copy_above.ensures p.left p.rest p.left_at) in
    let (u, f, l, b) = c.in_ok-to_normal.ensures p.env p.left p.env_at (appended_stands _ _ _ _ p.left p.within a) in
    let q = pair c.args.heap.now c.copy_above.new.heap c.to_normal.new.heap _ _ _ _ p.right u _ p.right_at (omega arith) a b in
    record { left = stands_holds _ _ _ p.right q.lower; right = record { term = u; rest = _; at = q.upper } }

pub returns : goal.returns
returns c e a t rest at la lb s =
    let w = rw c.in_ok-last.ensures.ok_part at (c.copy_above.ensures a rest la) in
    let (u, f, l, b) = c.in_ok-to_normal.ensures e a at (appended_stands _ _ _ _ a (stands_within _ _ _ _ s).1 w) in
    let q = pair c.args.heap.now c.copy_above.new.heap c.to_normal.new.heap _ _ _ _ t u _ s (omega arith) w b in
    normal_compares e c.args.budget.taken c.args.budget.most _ _ (length c.args.stack.now) a t u _ _ f q.kept (c.equal.ensures t u _ _ (stands_at _ _ _ t q.lower) q.upper)

pub returns-in_err-to_normal : goal.returns-in_err-to_normal
returns-in_err-to_normal c e a t rest at la lb s =
    let w = rw c.in_ok-last.ensures.ok_part at (c.copy_above.ensures a rest la) in
    let (y, p, q) = err_from_is_err_and c.from_residual-in_err-to_normal.result c.from_residual-in_err-to_normal.ensures.1 in
    rw (p, q) (normal_limited e _ _ _ _ _ _ _ _ a t c.to_normal.new.heap _ s.ends (omega arith) (omega arith) (c.in_err-to_normal.ensures e a at (appended_stands _ _ _ _ a (stands_within _ _ _ _ s).1 w)))
