-- Declarations resolved: the rows that they add to the table, and the entries that they stand for.
use Rattle.std.specs.Prelude.{◌≡◌, ℕ, ◌+◌, ◌*◌, ◌≤◌, Bool, true, false, List, [], length, drop, ◌==◌, Option, Some, None, Result, Ok, Err}
use Rattle.theory.specs.Terms.{Term, size}
use Rattle.theory.specs.Environment.{Entry, defined, assumed, inductive}
use Rattle.terms.specs.Words.{put}
use Rattle.terms.specs.Writing.{Appends}
use Rattle.syntax.specs.Surface.{Decl, d_def, d_axiom, d_data}
use Rattle.syntax.specs.Tree.{put_decl}
use Rattle.elaboration.specs.Elaboration.{Global}
use Rattle.elaboration.specs.Declarations.{ElabDecl}
use Rattle.resolver.specs.Resolving.{nodes, basic_decl}
use Rattle.resolver.specs.Names.{Named, GlobalsAt}
use Rattle.resolver.specs.declared.declarations.Declared.{Declared}
use Rattle.resolver.specs.declared.walk.Nowhere.{Nowhere}

-- Is it a definition or an axiom that hides no arguments?
abbrev pub unhidden : Decl → Bool
unhidden (d_def x h a b) = h == 0
unhidden (d_axiom x h a) = h == 0
unhidden (d_data x h ps l cs) = false

-- Such a declaration stands at place p.
pub record DeclAt (tree : List ℕ) (p : ℕ) (d : Decl) : Type 0 where
  pub rest : List ℕ
  pub stands : drop p tree ≡ put_decl d rest
  pub bare : unhidden d ≡ true

pub record DeclStands (tree : List ℕ) (p : ℕ) : Type 0 where
  pub decl : Decl
  pub at : DeclAt tree p decl

-- The nodes of what a definition or an axiom stands for.
abbrev pub decl_nodes : Decl → ℕ
decl_nodes (d_def x h a b) = nodes a + nodes b
decl_nodes (d_axiom x h a) = nodes a
decl_nodes (d_data x h ps l cs) = 0

-- The words of an entry: its type, then its body.
abbrev pub put_entry : Entry → List ℕ
put_entry (defined t a) = put a (put t [])
put_entry (assumed a) = put a []
put_entry (inductive k) = []

-- The plain definition or axiom d stands at place p of the tree, rest behind it, among the globals gs, and there is room for its nodes.
pub record DeclSetting (tree : List ℕ) (p : ℕ) (table stack out : List ℕ) (start : ℕ) (gs : List Global) (d : Decl) (rest : List ℕ) : Type 0 where
  pub globals : GlobalsAt tree table gs
  pub stands : drop p tree ≡ put_decl d rest
  pub plain : basic_decl d ≡ true
  pub room : start + 3 * decl_nodes d ≤ length out
  pub depth : decl_nodes d ≤ length stack

pub record DeclReady (tree : List ℕ) (p : ℕ) (table stack out : List ℕ) (start : ℕ) : Type 0 where
  pub globals : List Global
  pub decl : Decl
  pub rest : List ℕ
  pub setting : DeclSetting tree p table stack out start globals decl rest

-- The entry c, the only one that d elaborates to, is written behind the first start words, and behind says where rest stands.
pub record DeclWritten (tree : List ℕ) (gs : List Global) (d : Decl) (rest before : List ℕ) (start : ℕ) (after : List ℕ) (c : Entry) (end behind : ℕ) : Type 0 where
  pub elab : ElabDecl gs d c
  pub unique : (b : Entry) → ElabDecl gs d b → b ≡ c
  pub writes : Appends before start (put_entry c) after end
  pub goes_on : drop behind tree ≡ rest

-- A definition, whose body is written from place body on; an axiom.
pub record DefWritten (tree : List ℕ) (gs : List Global) (d : Decl) (rest before : List ℕ) (start : ℕ) (after : List ℕ) (body_at end behind : ℕ) : Type 0 where
  pub type : Term
  pub body : Term
  pub written : DeclWritten tree gs d rest before start after (defined body type) end behind
  pub place : body_at ≡ start + 3 * size type

pub record AxiomWritten (tree : List ℕ) (gs : List Global) (d : Decl) (rest before : List ℕ) (start : ℕ) (after : List ℕ) (end behind : ℕ) : Type 0 where
  pub type : Term
  pub written : DeclWritten tree gs d rest before start after (assumed type) end behind

-- One of these: there is a body for a definition.
abbrev pub FormWritten : List ℕ → List Global → Decl → List ℕ → List ℕ → ℕ → List ℕ → Option ℕ → ℕ → ℕ → Type 0
FormWritten tree gs d rest before start after (Some body_at) end behind = DefWritten tree gs d rest before start after body_at end behind
FormWritten tree gs d rest before start after None end behind = AxiomWritten tree gs d rest before start after end behind

-- The answer: one of these, or d elaborates to no entry, and a name of it stands at that place.
abbrev pub DeclResolves : List ℕ → List Global → Decl → List ℕ → List ℕ → ℕ → List ℕ → Result Declared Nowhere → Type 0
DeclResolves tree gs d rest before start after (Ok r) = FormWritten tree gs d rest before start after r.body r.end r.behind
DeclResolves tree gs d rest before start after (Err n) = ((c : Entry) → ElabDecl gs d c → ⊥) × Named tree n.0
