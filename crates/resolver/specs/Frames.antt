-- The walk over a plain term: what waits, and which names are bound, on a stack of frames; and what is promised of the whole.
use Rattle.std.specs.Prelude.{◌≡◌, ℕ, ◌+◌, ◌*◌, ◌≤◌, List, [], ◌∷◌, length, drop, Result, Ok, Err}
use Rattle.theory.specs.Terms.{Term}
use Rattle.terms.specs.Words.{put}
use Rattle.terms.specs.Writing.{Appends}
use Rattle.terms.specs.declared.sign.Sign.{Sign}
use Rattle.terms.specs.declared.sign.Sign.TheVariants.{Pi, Lam, App, Var, Sort, Def, Data, Con, Rec, Eq, Refl, Along}
use Rattle.syntax.specs.Surface.{Name, Expr}
use Rattle.elaboration.specs.Elaboration.{Global, Elab}
use Rattle.resolver.specs.Resolving.{nodes}
use Rattle.resolver.specs.Names.{Named, GlobalsAt, ScopeAt}
use Rattle.resolver.specs.Nodes.{PlainAt}
use Rattle.resolver.specs.declared.walk.Resolved.{Resolved}
use Rattle.resolver.specs.declared.walk.Nowhere.{Nowhere}
use Rattle.resolver.specs.declared.walk.FrameKind.{FrameKind}
use Rattle.resolver.specs.declared.walk.FrameKind.TheVariants.{Argument, Body, Bound}

-- A frame: an argument waits; a body waits, which will be under a name; a body is at hand, under a name. With the name's place.
pub data Frame : Type 0 where
  waits : ℕ → Expr → Frame
  body : ℕ → Name → Expr → Frame
  under : ℕ → Name → Frame

-- The word of a kind of frame.
abbrev pub kind_word : FrameKind → ℕ
kind_word Argument = 0
kind_word Body = 1
kind_word Bound = 2

-- Frames in words, the top first, before what follows: two words each.
abbrev pub put_frames : List Frame → List ℕ → List ℕ
put_frames [] r = r
put_frames (waits p a ∷ fs) r = 0 ∷ p ∷ put_frames fs r
put_frames (body p x b ∷ fs) r = 1 ∷ p ∷ put_frames fs r
put_frames (under p x ∷ fs) r = 2 ∷ p ∷ put_frames fs r

-- The frames from the first one that waits on; that one taken up.
abbrev pub opened : List Frame → List Frame
opened [] = []
opened (waits p a ∷ fs) = waits p a ∷ fs
opened (body p x b ∷ fs) = body p x b ∷ fs
opened (under p x ∷ fs) = opened fs

abbrev pub entered : List Frame → List Frame
entered [] = []
entered (waits p a ∷ fs) = fs
entered (body p x b ∷ fs) = under p x ∷ fs
entered (under p x ∷ fs) = under p x ∷ fs

-- From place free of the stack on stand the frames fs, and from top on base.
pub record FramesAt (stack : List ℕ) (free top : ℕ) (fs : List Frame) (base : List ℕ) : Type 0 where
  pub words : drop free stack ≡ put_frames fs base
  pub count : free + 2 * length fs ≡ top

-- Some frames stand there.
pub record Framed (stack : List ℕ) (free top : ℕ) : Type 0 where
  pub frames : List Frame
  pub base : List ℕ
  pub at : FramesAt stack free top frames base
  pub within : top ≤ length stack

-- What waits behind a node: an argument 0, a body 1.
abbrev pub kind : Sign → ℕ
kind Pi = 1
kind Lam = 1
kind App = 0
kind (Var x) = 1
kind (Sort i) = 1
kind (Def i) = 1
kind (Data i) = 1
kind (Con i k) = 1
kind (Rec i j) = 1
kind (Eq i) = 1
kind (Refl i) = 1
kind (Along i j) = 1

-- Two words put on top of a stack that grows down.
pub record PushesTwo (before : List ℕ) (free v w : ℕ) (after : List ℕ) (top : ℕ) : Type 0 where
  pub grows : top + 2 ≡ free
  pub words : drop top after ≡ v ∷ w ∷ drop free before

-- The plain term e stands at place p of the tree, rest behind it, among the globals gs of the table and the bound names ys, and there
-- is room for its nodes, three words each in the output and one each on the stack below top.
pub record Setting (tree : List ℕ) (p : ℕ) (table stack : List ℕ) (top : ℕ) (out : List ℕ) (start : ℕ) (gs : List Global) (ys : List Name) (e : Expr) (rest : List ℕ) : Type 0 where
  pub globals : GlobalsAt tree table gs
  pub scope : ScopeAt tree (drop top stack) ys
  pub stands : PlainAt tree p e rest
  pub room : start + 3 * nodes e ≤ length out
  pub depth : nodes e ≤ top
  pub within : top ≤ length stack

-- Some term does.
pub record Ready (tree : List ℕ) (p : ℕ) (table stack : List ℕ) (top : ℕ) (out : List ℕ) (start : ℕ) : Type 0 where
  pub globals : List Global
  pub scope : List Name
  pub expr : Expr
  pub rest : List ℕ
  pub setting : Setting tree p table stack top out start globals scope expr rest

-- A term that e elaborates to, the only one, is written behind the first start words, and behind says where rest stands in the tree.
pub record Written (tree : List ℕ) (gs : List Global) (ys : List Name) (e : Expr) (rest before : List ℕ) (start : ℕ) (after : List ℕ) (end behind : ℕ) : Type 0 where
  pub term : Term
  pub elab : Elab gs ys e term
  pub unique : (t : Term) → Elab gs ys e t → t ≡ term
  pub writes : Appends before start (put term []) after end
  pub goes_on : drop behind tree ≡ rest

-- The answer: such a term, or e elaborates to none, and a name of it stands at that place.
abbrev pub Resolves : List ℕ → List Global → List Name → Expr → List ℕ → List ℕ → ℕ → List ℕ → Result Resolved Nowhere → Type 0
Resolves tree gs ys e rest before start after (Ok r) = Written tree gs ys e rest before start after r.end r.behind
Resolves tree gs ys e rest before start after (Err n) = ((t : Term) → Elab gs ys e t → ⊥) × Named tree n.0
