use Rattle.std.proofs.Common.{◌-◌, refl, arith}
use Rattle.kernel.proofs.Tops.{appended_within}
use Rattle.kernel.proofs.Inserting.{pi_inserted}
use Rattle.kernel.proofs.body.insert_pi.Goals as goal

pub returns : goal.returns
returns c a t rest at s =
    let w = c.in_ok-stop.ensures a rest at in
    pi_inserted c.args.heap.now c.push_sign-start.new.out c.copy_term.new.out c.rotate_right.new.self c.args.top c.args.end c.push_sign-start.result c.in_ok-stop.stop (c.in_ok-stop.stop - c.args.end) a t s c.requires.within
    (appended_within _ _ c.push_sign-start.result c.in_ok-stop.stop a (omega (arith, c.push_sign-start.ensures.ends, c.if-heap-end-lt3.false)) w) refl c.push_sign-start.ensures w c.rotate_right.ensures.after
