-- What the kernel finds of an entry, with the words to work in divided, is what settling promises.
use Rattle.std.proofs.Common.{◌≡◌, ℕ, ◌+◌, ◌*◌, ◌<◌, ◌≤◌, List, length, Some, None, Option, Ok, Err, Result, sym, refl, subst as tr, arith}
use Rattle.std.specs.Prelude.{⊤}
use Rattle.theory.specs.Terms.{Term}
use Rattle.theory.specs.Environment.{Entry, defined, assumed, Env}
use Rattle.theory.specs.Typing.{whole}
use Rattle.theory.specs.Question.{InQuestion, mentioned, of_type, of_assumed, entry_size}
use Rattle.terms.specs.Words.{At}
use Rattle.kernel.specs.Checking.{Checkable, Checks}
use Rattle.kernel.specs.declared.failure.Failure.{Failure}
use Rattle.kernel.specs.declared.failure.Failure.TheVariants.{Refused, Spent, NoRoom}
use Rattle.kernel.proofs.Room.{reached_start}
use Rattle.judge.specs.Judging.{Lacks, TermsAt, definition_at, axiom_at, Entering, Settles}

-- The type is in question, so words that are too few for the nodes are too few.
pub type_lacks : {e : Env} {c : Entry} {most w : ℕ} {a : Term} → InQuestion e c a → w < 9 * entry_size c → Lacks e c most w
type_lacks {a = a} q l = record { term = a; reached = reached_start q; large = omega arith }

pub definition_asked : {e : Env} {t a : Term} → InQuestion e (defined t a) a
definition_asked = mentioned (of_type whole)

pub axiom_asked : {e : Env} {a : Term} → InQuestion e (assumed a) a
axiom_asked = mentioned (of_assumed whole)

-- From the kernel's answer, given all but the context, the frames and one word for heap and stack.
pub settled : (e : Env) (c : Entry) (most w heap : ℕ) (r : Result ⊤ Failure) → w ≤ 9 * entry_size c + 2 * heap + 1 → {d : Entry} → c ≡ d → Checks e d most heap r → Settles e c most w r
settled e c most w heap r l q k = by r l (tr (λ (b : Entry). Checks e b most heap r) (sym q) k)
  where
    by : (r : Result ⊤ Failure) → w ≤ 9 * entry_size c + 2 * heap + 1 → Checks e c most heap r → Settles e c most w r
    by (Ok done) l k = k
    by (Err Refused) l k = k
    by (Err Spent) l k = k
    by (Err NoRoom) l k = record { term = k.term; reached = k.reached; large = omega (arith, k.large) }

-- The kernel can be asked.
pub checkable : {index store : List ℕ} {at nodes : ℕ} {body : Option ℕ} {e : Env} {c : Entry} (d : Entry) (context frames heap stack : List ℕ) → Entering index store at body nodes e c → c ≡ d
    → length context ≡ 2 * nodes → length frames ≡ 7 * nodes → length heap ≤ length stack → Checkable e d index store context frames heap stack
checkable {index} {store} {e = e} d context frames heap stack n q x y z =
    tr (λ (b : Entry). Checkable e b index store context frames heap stack) q
    (record {
      wf = n.wf;
      stored = n.stored;
      core = n.core;
      few = omega (arith, n.few, n.nodes_are);
      names_room = omega (arith, n.nodes_are);
      frames_room = omega (arith, n.nodes_are);
      stack_room = z;
    })

-- An entry with a body is a definition, one without an axiom.
pub record DefinitionView (ws : List ℕ) (at b : ℕ) (c : Entry) : Type 0 where
  pub body : Term
  pub type : Term
  pub type_rest : List ℕ
  pub body_rest : List ℕ
  pub is : c ≡ defined body type
  pub type_at : At ws at type type_rest
  pub body_at : At ws b body body_rest

pub as_definition : {ws : List ℕ} {at : ℕ} {o : Option ℕ} {c : Entry} → TermsAt ws at o c → (b : ℕ) → o ≡ Some b → DefinitionView ws at b c
as_definition {ws} (definition_at {b = d} {t = t} {a = a} {x = x} {y = y} p q) b e =
    record { body = t; type = a; type_rest = x; body_rest = y; is = refl; type_at = p; body_at = tr (λ (k : ℕ). At ws k t y) (same_body e) q }
  where
    same_body : Some d ≡ Some b → d ≡ b
    same_body e = cc
as_definition (axiom_at p) b e = absurd (let z : ◌≡◌ {A = ℕ} 0 1 = cc in (let f : ⊥ = omega arith in f))

pub record AxiomView (ws : List ℕ) (at : ℕ) (c : Entry) : Type 0 where
  pub type : Term
  pub rest : List ℕ
  pub is : c ≡ assumed type
  pub type_at : At ws at type rest

pub as_axiom : {ws : List ℕ} {at : ℕ} {o : Option ℕ} {c : Entry} → TermsAt ws at o c → o ≡ None → AxiomView ws at c
as_axiom (definition_at p q) e = absurd (let z : ◌≡◌ {A = ℕ} 0 1 = cc in (let f : ⊥ = omega arith in f))
as_axiom (axiom_at {a = a} {x = x} p) e = record { type = a; rest = x; is = refl; type_at = p }

-- Too few words, whichever it is.
pub entry_lacks : {ws : List ℕ} {at : ℕ} {o : Option ℕ} {c : Entry} → TermsAt ws at o c → (e : Env) (most w : ℕ) → w < 9 * entry_size c → Lacks e c most w
entry_lacks (definition_at p q) e most w l = type_lacks definition_asked l
entry_lacks (axiom_at p) e most w l = type_lacks axiom_asked l
