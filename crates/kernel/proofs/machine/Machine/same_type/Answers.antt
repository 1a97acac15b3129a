use Rattle.std.proofs.Common.{arith}
use Rattle.terms.proofs.Places.{at_kept}
use Rattle.kernel.proofs.Reduced.{stands_within}
use Rattle.kernel.proofs.Tops.{appended_stands, appended_within}
use Rattle.kernel.proofs.Agreeing.{stands_at}
use Rattle.kernel.proofs.Checks.{agrees_copied}
use Rattle.kernel.proofs.machine.Machine.same_type.Goals as goal

pub copy_term-requires : goal.copy_term-requires
copy_term-requires c =
    let p = c.requires in
    record { stands = record { term = p.right; rest = p.rest; at = p.right_at }; order = (stands_within _ _ _ _ p.left_at).1 }

pub agree-requires : goal.agree-requires
agree-requires c =
    let p = c.requires in
    let l = (stands_within _ _ _ _ p.left_at).1 in
    let w = rw c.in_ok-end.ensures.ok_part at (c.copy_term.ensures p.right p.rest p.right_at) in
    record {
      pair = record {
        env = p.env;
        env_at = p.env_at;
        closed = p.closed;
        left = p.left;
        right = p.right;
        rest = _;
        left_at = at_kept _ _ _ _ _ _ p.left _ l (omega (arith, p.left_at.ends)) w (stands_at _ _ _ p.left p.left_at);
        left_below = omega (arith, p.left_at.ends);
        right_at = appended_stands _ _ _ _ p.right l w;
        within = appended_within _ _ _ _ p.right l w;
        scope = 0;
        left_scoped = p.left_scoped;
        few = omega arith;
      };
      right_scoped = p.right_scoped;
    }

pub returns-clause-agrees : goal.returns-clause-agrees
returns-clause-agrees c e b a rest at s ta =
    let l = (stands_within _ _ _ _ s).1 in
    let w = rw c.in_ok-end.ensures.ok_part at (c.copy_term.ensures a rest ta) in
    agrees_copied e _ _ _ _ _ _ _ _ b a c.agree.result l w (omega arith) (omega arith)
    (c.agree.ensures e b a _ at (at_kept _ _ _ _ _ _ b _ l (omega (arith, s.ends)) w (stands_at _ _ _ b s)) (omega (arith, s.ends)) (appended_stands _ _ _ _ a l w))
