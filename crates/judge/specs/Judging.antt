-- Judging along the declarations of a text, with the names and the environment so far in words.
use Rattle.std.specs.Prelude.{◌≡◌, ℕ, ◌+◌, ◌*◌, ◌<◌, ◌≤◌, true, List, [], ◌∷◌, ◌++◌, length, take, drop, Some, None, Option, Ok, Err, Result, ⊤}
use Rattle.theory.specs.Terms.{Term, size}
use Rattle.theory.specs.Environment.{Entry, defined, assumed, Env}
use Rattle.theory.specs.Typing.{WfEntry, WfEnv}
use Rattle.theory.specs.Question.{TakesLonger, entry_size, entry_depth}
use Rattle.syntax.specs.Surface.{Decl, stage, names_of}
use Rattle.syntax.specs.Grammar.{Reads}
use Rattle.syntax.specs.Tree.{put_decls}
use Rattle.elaboration.specs.Elaboration.{Global}
use Rattle.elaboration.specs.Declarations.{ElabDecl, Admissible, Checks, globals_of, plain_decl}
use Rattle.terms.specs.Words.{At}
use Rattle.reduction.specs.Store.{EnvAt}
use Rattle.resolver.specs.Names.{GlobalsAt}
use Rattle.kernel.specs.Inference.{Reached}
use Rattle.kernel.specs.Environments.{PlainAt}
use Rattle.kernel.specs.Checking.{CoreEntry}
use Rattle.kernel.specs.declared.failure.Failure.{Failure}
use Rattle.kernel.specs.declared.failure.Failure.TheVariants.{Refused, Spent, NoRoom}
use Rattle.judge.specs.Promise.{landed}
use Rattle.resolver.specs.Entries.{DeclWritten}
use Rattle.resolver.specs.declared.declarations.Declared.{Declared as Written}
use Rattle.judge.specs.declared.row.Spot.{Spot}
use Rattle.judge.specs.declared.Checked.{Checked}
use Rattle.judge.specs.declared.Checked.TheVariants as answer

-- The text t reads, at landed stages, as the declarations done, which check with globals gs and environment e, and rest.
pub record Judged (t : List ℕ) (done rest : List Decl) (gs : List Global) (e : Env) : Type 0 where
  pub reads : Reads t (done ++ rest)
  pub in_stage : stage (done ++ rest) < landed
  pub checks : Checks done gs e

-- The same in words: the rest stands in the tree from the place of the spot on, the globals in the rows of the table, the environment
-- in the index and the store, and there is room in them for the rest; so many words are there for resolving names. There are
-- at most 32,768 declarations.
pub record Judging (t tree index table store : List ℕ) (words : ℕ) (s : Spot) (done rest : List Decl) (gs : List Global) (e : Env) : Type 0 where
  pub judged : Judged t done rest gs e
  pub count : s.count ≡ length done
  pub tree_at : drop s.place tree ≡ put_decls rest []
  pub tree_short : length tree ≤ 131072
  pub all_few : s.count + length rest ≤ 32768
  pub globals : GlobalsAt tree (take s.rows table) gs
  pub stored : EnvAt (take (2 * s.count) index) (take s.used store) e
  pub index_room : 2 * (s.count + length rest) ≤ length index
  pub table_room : s.rows + 4 * length (names_of rest) ≤ length table
  pub store_room : s.used + 2 * length (put_decls rest []) ≤ length store + 4 * length (names_of rest)
  pub words_room : 2 * length (put_decls rest []) ≤ 3 * words + 2

-- The text t reads, at landed stages, as so many declarations ds, which stand in the tree; and there are words for names, and words for
-- the environment.
pub record Begins (t tree : List ℕ) (count words room : ℕ) (ds : List Decl) : Type 0 where
  pub reads : Reads t ds
  pub in_stage : stage ds < landed
  pub stands : tree ≡ put_decls ds []
  pub counts : count ≡ length ds
  pub short : length tree ≤ 131072
  pub words_room : 2 * length tree ≤ 3 * words + 2
  pub env_room : 2 * count + 2 * length tree ≤ room

pub record CanBegin (tree : List ℕ) (count words room : ℕ) : Type 0 where
  pub text : List ℕ
  pub decls : List Decl
  pub begins : Begins text tree count words room decls

-- The answer where judging stops behind so many declarations.
abbrev pub stop_answer : Failure → ℕ → Checked
stop_answer Refused n = answer.Refused n
stop_answer Spent n = answer.Spent n
stop_answer NoRoom n = answer.NoRoom n

-- Some declaration comes next.
pub record CanJudge (tree index table store : List ℕ) (words : ℕ) (s : Spot) : Type 0 where
  pub text : List ℕ
  pub done : List Decl
  pub next : Decl
  pub rest : List Decl
  pub globals : List Global
  pub env : Env
  pub judging : Judging text tree index table store words s done (next ∷ rest) globals env

-- A term in question comes, within the steps allowed, to one for which w words are too few.
pub record Lacks (e : Env) (c : Entry) (most w : ℕ) : Type 0 where
  pub term : Term
  pub reached : Reached e c most term
  pub large : w < 64 * (4 + entry_size c) + 128 * ((1 + entry_depth c) * size term)

-- Where the body of an entry begins whose type is written from start on; an axiom has none.
pub data BodyAt (start : ℕ) : Option ℕ → Entry → Type 0 where
  with_body : {b : ℕ} {t a : Term} → b ≡ start + 3 * size a → BodyAt start (Some b) (defined t a)
  no_body : {a : Term} → BodyAt start None (assumed a)

abbrev pub Ordered : ℕ → Option ℕ → Type 0
Ordered start (Some b) = start ≤ b
Ordered start None = Unit {0}

-- The only entry that d stands for is written from start on; or it stands for none.
abbrev pub EntryWritten : List ℕ → List Global → Decl → List ℕ → List ℕ → ℕ → List ℕ → Option Written → Type 0
EntryWritten tree gs d rest before start after (Some w) =
    (c : Entry) × DeclWritten tree gs d rest before start after c w.end w.behind × BodyAt start w.body c
EntryWritten tree gs d rest before start after None = (c : Entry) → ElabDecl gs d c → ⊥

-- The terms of an entry stand in words: its type at a place, its body, if it has one, at another.
pub data TermsAt (ws : List ℕ) (at : ℕ) : Option ℕ → Entry → Type 0 where
  definition_at : {b : ℕ} {t a : Term} {x y : List ℕ} → At ws at a x → At ws b t y → TermsAt ws at (Some b) (defined t a)
  axiom_at : {a : Term} {x : List ℕ} → At ws at a x → TermsAt ws at None (assumed a)

-- An entry of the core, of so many nodes, whose terms stand in the store, behind a well-formed environment.
pub record Entering (index store : List ℕ) (at : ℕ) (body : Option ℕ) (nodes : ℕ) (e : Env) (c : Entry) : Type 0 where
  pub wf : WfEnv e
  pub stored : PlainAt index store e
  pub terms_at : TermsAt store at body c
  pub core : CoreEntry c
  pub nodes_are : nodes ≡ entry_size c
  pub few : nodes ≤ 262144

pub record Enters (index store : List ℕ) (at : ℕ) (body : Option ℕ) (nodes : ℕ) : Type 0 where
  pub env : Env
  pub entry : Entry
  pub entering : Entering index store at body nodes env entry

-- What is found of an entry with w words to work in.
abbrev pub Settles : Env → Entry → ℕ → ℕ → Result ⊤ Failure → Type 0
Settles e c most w (Ok done) = WfEntry e c
Settles e c most w (Err Refused) = WfEntry e c → ⊥
Settles e c most w (Err Spent) = TakesLonger e c most
Settles e c most w (Err NoRoom) = Lacks e c most w

-- An entry that the declaration stands for, of which nothing is left out.
pub record StandsFor (gs : List Global) (d : Decl) (c : Entry) : Type 0 where
  pub plain : plain_decl gs d ≡ true
  pub elab : ElabDecl gs d c

-- What is found of the next declaration d: it checks, and judging stands behind it; nothing that it may stand for may be declared; a
-- term in question takes more steps, or more words than w.
abbrev pub Steps : List ℕ → List ℕ → List ℕ → List ℕ → List ℕ → ℕ → ℕ → ℕ → List Decl → Decl → List Decl → List Global → Env → Result Spot Failure → Type 0
Steps t tree index table store words most w done d rest gs e (Ok s) =
    (c : Entry) × Judging t tree index table store words s (done ++ (d ∷ [])) rest (gs ++ globals_of (length e) d) (e ++ (c ∷ []))
Steps t tree index table store words most w done d rest gs e (Err Refused) = (c : Entry) → Admissible gs e d c → ⊥
Steps t tree index table store words most w done d rest gs e (Err Spent) = (c : Entry) × StandsFor gs d c × TakesLonger e c most
Steps t tree index table store words most w done d rest gs e (Err NoRoom) = (c : Entry) × StandsFor gs d c × Lacks e c most w
