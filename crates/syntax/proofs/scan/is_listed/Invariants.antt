use Rattle.std.proofs.Common.{◌≡◌, drop}
use Rattle.std.specs.Prelude.{nat_eq}
use Rattle.std.specs.Cmp.Lexicographic.{pointwise}
use Rattle.std.specs.List.{list_any}
use Rattle.syntax.proofs.scan.is_listed.Given as goal

abbrev pub invariant-loop-listed : goal.invariant-loop-listed
invariant-loop-listed l = list_any (λ k. pointwise nat_eq k.now l.word) l.table ≡ list_any (λ k. pointwise nat_eq k.now l.word) (drop l.listed-index l.table)
