use Rattle.std.proofs.Common.{refl, inl, arith}
use Rattle.std.proofs.lemmas.Result.{err_from_is_err_and}
use Rattle.terms.proofs.Places.{at_kept}
use Rattle.kernel.proofs.Reduced.{stands_within}
use Rattle.kernel.proofs.Tops.{appended_stands, appended_within}
use Rattle.kernel.proofs.Agreeing.{stands_at, stands_holds, agrees_by, upper_limited}
use Rattle.kernel.proofs.agree.agree.Goals as goal

pub equal-requires : goal.equal-requires
equal-requires c =
    let p = c.requires.pair in
    record { left = record { term = p.left; rest = p.rest; at = p.left_at }; right = stands_holds _ _ _ p.right p.right_at }

pub returns-then-equal : goal.returns-then-equal
returns-then-equal c e a t rest at la lb s = (inl (c.if-equal.ensures a t rest _ la (stands_at _ _ _ t s)), refl)

pub agree_normal-requires : goal.agree_normal-requires
agree_normal-requires c =
    let p = c.requires.pair in
    let (u, f, l, b) = c.in_ok-stop.ensures p.env p.right p.env_at p.right_at in
    let t = stands_within _ _ _ _ p.right_at in
    record {
      env = p.env;
      env_at = p.env_at;
      closed = p.closed;
      left = p.left;
      right = u;
      rest = _;
      left_at = at_kept _ _ _ _ _ _ p.left p.rest (omega (arith, t.0)) p.left_below b p.left_at;
      left_below = p.left_below;
      right_at = appended_stands _ _ _ _ u (omega (arith, t.0)) b;
      within = appended_within _ _ _ _ u (omega (arith, t.0)) b;
      scope = p.scope;
      left_scoped = p.left_scoped;
      few = p.few;
    }

pub returns : goal.returns
returns c e a t rest at la lb s =
    let (u, f, l, b) = c.in_ok-stop.ensures e t at s in
    let w = stands_within _ _ _ _ s in
    agrees_by e _ _ _ _ _ _ _ _ _ a t u c.agree_normal.result f l b (omega (arith, w.0)) (omega arith) (omega arith)
    (c.agree_normal.ensures e a u _ at (at_kept _ _ _ _ _ _ a rest (omega (arith, w.0)) lb b la) lb (appended_stands _ _ _ _ u (omega (arith, w.0)) b))

pub returns-in_err-stop : goal.returns-in_err-stop
returns-in_err-stop c e a t rest at la lb s =
    let (y, p, q) = err_from_is_err_and c.from_residual.result c.from_residual.ensures.1 in
    rw (p, q) (upper_limited e _ _ _ _ _ a t c.to_normal.new.heap _ c.args.budget.within (c.in_err-stop.ensures e t at s))
