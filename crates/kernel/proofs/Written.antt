-- The type of a head is that of the entry that is looked up; the types of terms without parts are inferred, and where there is none the term has none.
use Rattle.std.proofs.Common.{◌≡◌, ℕ, suc, List, drop, sym, ap, ◌∙◌, subst as tr, inl, inr}
use mathlib.Core.Option.{Option, some, none}
use lib.ListN.{get_elem?}
use Rattle.theory.specs.Terms.{Term, var, const, sort, h_def, option, lift}
use Rattle.theory.specs.Environment.{Entry, Env, entry_type}
use Rattle.theory.specs.Typing.{t_var, t_head, t_sort, i_var, i_head, i_sort}
use Rattle.theory.proofs.Options.{map-some, map-none}
use Rattle.theory.proofs.Decisions.{var_no, head_no}
use Rattle.theory.specs.Typing.{WfEnv, WfContext}
use Rattle.std.specs.Prelude.{◌⊎◌, Option as Maybe, Some, None, Ok, Err, Result, IsErrAnd}
use Rattle.std.specs.Option.{ok_or}
use Rattle.std.proofs.lemmas.Result.{err_from_is_err_and}
use Rattle.terms.specs.Copying.{Copies, Fits}
use Rattle.terms.specs.Words.{At, Holds, put}
use Rattle.terms.proofs.Nodes.{put_one}
use Rattle.std.specs.Coded.{Coded-set, coded_ℕ, coded_list}
use Rattle.std.proofs.Math.Logic.{∥∥₁_elim}
use Rattle.reduction.specs.Store.{Stored}
use Rattle.reduction.specs.Lookup.{Finds}
use Rattle.reduction.specs.declared.store.Found.{Found}
use Rattle.reduction.specs.declared.store.Found.TheVariants.{Definition, Axiom}
use Rattle.terms.specs.declared.copy.WriteError.{WriteError}
use Rattle.terms.specs.declared.copy.WriteError.TheVariants as write
use Rattle.kernel.specs.declared.failure.Failure.TheVariants.{NoRoom}
use Rattle.kernel.specs.declared.failure.Failure.{Failure}
use Rattle.kernel.specs.Inference.{Has, Untyped}
use Rattle.kernel.specs.Machine.{leaf_type}
use Rattle.kernel.specs.Leaves.{LeafSays}

-- What was found, a definition or an axiom, is of the type that stands there.
pub found_type : (store : List ℕ) (o : Option Entry) (x : Found) (at : ℕ) → ((b : ℕ) × (x ≡ Definition at b)) ⊎ (x ≡ Axiom at) → Finds store o (Some x)
    → (a : Term) × (rest : List ℕ) × (option o none entry_type ≡ some a) × At store at a rest
found_type store o x at (inl (b, i)) f = let (t, a, is, s, _) = tr (λ (x : Found). Finds store o (Some x)) i f in (a, s.rest, ap (λ (o : Option Entry). option o none entry_type) is, s.at)
found_type store o x at (inr i) f = let (a, is, s) = tr (λ (x : Found). Finds store o (Some x)) i f in (a, s.rest, ap (λ (o : Option Entry). option o none entry_type) is, s.at)

-- At most one term stands at a place, so that one does holds of words of which it is only known that they are stored.
abbrev holds : (ws : List ℕ) (p : ℕ) (t : Term) (rest : List ℕ) → drop p ws ≡ put t rest → Holds ws p
holds ws p t rest e = record { term = t; rest = rest; at = record { stands = e } }

stands_once : (ws : List ℕ) (p : ℕ) → IsProp (Holds ws p)
stands_once ws p h k =
    let (t, r) = put_one h.term k.term h.rest k.rest (sym h.at.stands ∙ k.at.stands) in
    tr (λ (u : Term). (e : drop p ws ≡ put u k.rest) → h ≡ holds ws p u k.rest e) t
    (tr (λ (s : List ℕ). (e : drop p ws ≡ put h.term s) → h ≡ holds ws p h.term s e) r (λ e. ap (holds ws p h.term h.rest) (Coded-set (coded_list coded_ℕ) _ _ h.at.stands e))) k.at.stands

pub found_holds : (index store : List ℕ) (p : ℕ) → ∥ Stored index store ∥₁ → (Stored index store → Holds store p) → Holds store p
found_holds index store p s f = ∥∥₁_elim s (stands_once store p) f

-- The type is copied, or does not fit.
pub copied_leaf : (before after : List ℕ) (top stack : ℕ) (o : Option Term) (a : Term) → o ≡ some a → (m : Maybe ℕ) (r : Result ℕ Failure) → r ≡ ok_or m NoRoom → Fits before top after a m → LeafSays before top stack after o r
copied_leaf before after top stack o a is (Some end) r i f = rw i (let s : LeafSays before top stack after o (Ok end) = (a, is, f) in s)
copied_leaf before after top stack o a is None r i f = rw i (let s : LeafSays before top stack after o (Err NoRoom) = (a, is, inl f) in s)

-- The type does not fit.
pub leaf_unwritten : (before after : List ℕ) (top stack : ℕ) (o : Option Term) (k : Term) → o ≡ some k → (x : WriteError) (r : Result ℕ Failure) → IsErrAnd r (λ f. f ≡ NoRoom) → Copies before top after stack k (Err x)
    → LeafSays before top stack after o r
leaf_unwritten before after top stack o k is write.NoRoom r w h = let (f, p, q) = err_from_is_err_and r w in rw (p, q) (let s : LeafSays before top stack after o (Err NoRoom) = (k, is, inl h) in s)
leaf_unwritten before after top stack o k is write.NoStack r w h = let (f, p, q) = err_from_is_err_and r w in rw (p, q) (let s : LeafSays before top stack after o (Err NoRoom) = (k, is, inr h) in s)

-- The types of variables, heads and sorts.
pub var_has : {e : Env} {g : List Term} {x : ℕ} {k : Term} → leaf_type e g (var x) ≡ some k → Has e g (var x) k
var_has {e} {g} {x} p = map-some (lift 0 (suc x)) (get_elem? g x) p λ a was is. tr (Has e g (var x)) is (record { of = t_var was; infers = i_var was })

pub head_has : {e : Env} {g : List Term} {i : ℕ} {k : Term} → leaf_type e g (const (h_def i)) ≡ some k → Has e g (const (h_def i)) k
head_has p = record { of = t_head p; infers = i_head p }

pub sort_has : {e : Env} {g : List Term} (i : ℕ) → Has e g (sort i) (sort (suc i))
sort_has i = record { of = t_sort; infers = i_sort }

pub var_none : {e : Env} {g : List Term} {x : ℕ} → WfEnv e → WfContext e g → leaf_type e g (var x) ≡ none → Untyped e g (var x)
var_none {e} {g} {x} wf ctx p = var_no wf ctx (map-none (lift 0 (suc x)) (get_elem? g x) p)

pub head_none : {e : Env} {g : List Term} {i : ℕ} → WfEnv e → WfContext e g → leaf_type e g (const (h_def i)) ≡ none → Untyped e g (const (h_def i))
head_none wf ctx p = head_no wf ctx p
