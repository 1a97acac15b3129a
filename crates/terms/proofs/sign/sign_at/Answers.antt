use Rattle.std.proofs.Common.{◌+◌, ◌≤◌, length, ◌∙◌, rules}
use Rattle.terms.proofs.Places.{holds_within, at_root}
use Rattle.terms.proofs.sign.sign_at.Goals as goal

pub offset_bounds-words-at : goal.offset_bounds-words-at
offset_bounds-words-at c = let h : c.args.at + 3 ≤ length c.args.words.now = holds_within _ _ c.requires in search rules

pub bounds-words-at : goal.bounds-words-at
bounds-words-at c = let h : c.args.at + 3 ≤ length c.args.words.now = holds_within _ _ c.requires in search rules

pub overflow_add-at : goal.overflow_add-at
overflow_add-at c = let h : c.args.at + 3 ≤ length c.args.words.now = holds_within _ _ c.requires in search rules

pub offset_bounds-words-at-2 : goal.offset_bounds-words-at-2
offset_bounds-words-at-2 c = let h : c.args.at + 3 ≤ length c.args.words.now = holds_within _ _ c.requires in search rules

pub bounds-words-at-2 : goal.bounds-words-at-2
bounds-words-at-2 c = let h : c.args.at + 3 ≤ length c.args.words.now = holds_within _ _ c.requires in search rules

pub overflow_add-at-2 : goal.overflow_add-at-2
overflow_add-at-2 c = let h : c.args.at + 3 ≤ length c.args.words.now = holds_within _ _ c.requires in search rules

pub offset_bounds-words-at-3 : goal.offset_bounds-words-at-3
offset_bounds-words-at-3 c = let h : c.args.at + 3 ≤ length c.args.words.now = holds_within _ _ c.requires in search rules

pub bounds-words-at-3 : goal.bounds-words-at-3
bounds-words-at-3 c = let h : c.args.at + 3 ≤ length c.args.words.now = holds_within _ _ c.requires in search rules

pub returns : goal.returns
returns c t rest a = c.decode.ensures ∙ at_root _ _ t rest a
