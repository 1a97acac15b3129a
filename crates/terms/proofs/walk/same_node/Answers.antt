use Rattle.std.proofs.Common.{◌+◌, ◌≤◌, length, rules}
use Rattle.std.proofs.lemmas.Bool.Decides.{Decides-at, Decides-and, Decides-eqb}
use Rattle.terms.proofs.Places.{holds_within, decides_root}
use Rattle.terms.proofs.walk.same_node.Goals as goal

pub offset_bounds-left-i : goal.offset_bounds-left-i
offset_bounds-left-i c = let h : c.args.i + 3 ≤ length c.args.left.now = holds_within _ _ c.requires.left in search rules

pub bounds-left-i : goal.bounds-left-i
bounds-left-i c = let h : c.args.i + 3 ≤ length c.args.left.now = holds_within _ _ c.requires.left in search rules

pub overflow_add-i : goal.overflow_add-i
overflow_add-i c = let h : c.args.i + 3 ≤ length c.args.left.now = holds_within _ _ c.requires.left in search rules

pub offset_bounds-left-i-2 : goal.offset_bounds-left-i-2
offset_bounds-left-i-2 c = let h : c.args.i + 3 ≤ length c.args.left.now = holds_within _ _ c.requires.left in search rules

pub bounds-left-i-2 : goal.bounds-left-i-2
bounds-left-i-2 c = let h : c.args.i + 3 ≤ length c.args.left.now = holds_within _ _ c.requires.left in search rules

pub overflow_add-i-2 : goal.overflow_add-i-2
overflow_add-i-2 c = let h : c.args.i + 3 ≤ length c.args.left.now = holds_within _ _ c.requires.left in search rules

pub offset_bounds-left-i-3 : goal.offset_bounds-left-i-3
offset_bounds-left-i-3 c = let h : c.args.i + 3 ≤ length c.args.left.now = holds_within _ _ c.requires.left in search rules

pub bounds-left-i-3 : goal.bounds-left-i-3
bounds-left-i-3 c = let h : c.args.i + 3 ≤ length c.args.left.now = holds_within _ _ c.requires.left in search rules

pub offset_bounds-right-j : goal.offset_bounds-right-j
offset_bounds-right-j c = let h : c.args.j + 3 ≤ length c.args.right.now = holds_within _ _ c.requires.right in search rules

pub bounds-right-j : goal.bounds-right-j
bounds-right-j c = let h : c.args.j + 3 ≤ length c.args.right.now = holds_within _ _ c.requires.right in search rules

pub overflow_add-j : goal.overflow_add-j
overflow_add-j c = let h : c.args.j + 3 ≤ length c.args.right.now = holds_within _ _ c.requires.right in search rules

pub offset_bounds-right-j-2 : goal.offset_bounds-right-j-2
offset_bounds-right-j-2 c = let h : c.args.j + 3 ≤ length c.args.right.now = holds_within _ _ c.requires.right in search rules

pub bounds-right-j-2 : goal.bounds-right-j-2
bounds-right-j-2 c = let h : c.args.j + 3 ≤ length c.args.right.now = holds_within _ _ c.requires.right in search rules

pub overflow_add-j-2 : goal.overflow_add-j-2
overflow_add-j-2 c = let h : c.args.j + 3 ≤ length c.args.right.now = holds_within _ _ c.requires.right in search rules

pub offset_bounds-right-j-3 : goal.offset_bounds-right-j-3
offset_bounds-right-j-3 c = let h : c.args.j + 3 ≤ length c.args.right.now = holds_within _ _ c.requires.right in search rules

pub bounds-right-j-3 : goal.bounds-right-j-3
bounds-right-j-3 c = let h : c.args.j + 3 ≤ length c.args.right.now = holds_within _ _ c.requires.right in search rules

pub returns : goal.returns
returns c = decides_root _ _ _ _ _ (Decides-at _ _ c.eq.ensures (Decides-and _ _ (Decides-and _ _ (Decides-eqb _ _) (Decides-eqb _ _)) (Decides-eqb _ _)))
