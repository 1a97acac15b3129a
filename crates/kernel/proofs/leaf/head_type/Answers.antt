use Rattle.kernel.proofs.Written.{found_type, found_holds, copied_leaf}
use Rattle.kernel.proofs.leaf.head_type.Goals as goal

pub copy_term-requires : goal.copy_term-requires
copy_term-requires c =
    record {
      stands = found_holds _ _ _ c.args.env.stored λ s.
          let (a, rest, is, p) = found_type _ _ _ _ c.in-Definition.is (rw c.in_ok-at.ensures.ok_part at (c.find_entry.ensures s.env s.at)) in
          record { term = a; rest = rest; at = p };
      order = c.requires;
    }

pub returns-in-Definition : goal.returns-in-Definition
returns-in-Definition c e stack at =
    let (a, rest, is, p) = found_type _ _ _ _ c.in-Definition.is (rw c.in_ok-at.ensures.ok_part at (c.find_entry.ensures e at)) in
    copied_leaf _ _ _ stack _ a is c.copy_term.result _ c.ok_or-in-Definition.ensures.value (c.copy_term.ensures a rest p)
