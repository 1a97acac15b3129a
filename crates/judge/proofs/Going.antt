-- The next declaration: what is known of it where judging stands, and where judging stands behind it.
use Rattle.std.proofs.Common.{◌≡◌, ℕ, ◌+◌, ◌*◌, ◌<◌, true, List, [], ◌∷◌, ◌++◌, length, Some, None, Option, Ok, Err, Result, sym, refl, ap, ◌∙◌, arith}
use Rattle.std.specs.Result.{result_ok}
use mathlib.Core.Option.{some}
use lib.ListN.{get_elem?}
use Rattle.theory.specs.Terms.{Term, size}
use Rattle.theory.specs.Environment.{Entry, defined, assumed, Env, DataType, data_at, entry_data}
use Rattle.theory.specs.Question.{entry_size}
use Rattle.theory.proofs.Options.{none-some, false-true, and_true, cases_option, option-some}
use Rattle.theory.proofs.Closed.{get_snoc}
use Rattle.syntax.specs.Surface.{Name, Expr, e_name, e_at, e_full, e_sort, e_pi, e_lam, e_app, e_hole, e_by, e_have, Decl, d_def, d_axiom, d_data, decl_stage, stage}
use Rattle.syntax.specs.Grammar.{IsDecl}
use Rattle.elaboration.specs.Elaboration.{Global, lookup, index_of, plain, Elab}
use Rattle.elaboration.specs.Declarations.{ElabDecl, el_def, el_axiom, el_data, Checks, checks_end, checks_more, plain_decl}
use Rattle.terms.specs.Words.{put}
use Rattle.terms.proofs.Nodes.{put-length}
use Rattle.reduction.specs.Lookup.{Declared as Extends}
use Rattle.kernel.specs.Checking.{CoreEntry}
use Rattle.resolver.specs.Resolving.{basic, nodes, basic_decl}
use Rattle.resolver.specs.Entries.{unhidden, decl_nodes, put_entry, DeclWritten, FormWritten as Written, DeclResolves}
use Rattle.resolver.specs.declared.declarations.Declared.{Declared}
use Rattle.resolver.specs.declared.walk.Nowhere.{Nowhere}
use Rattle.resolver.specs.Names.{GlobalsAt}
use Rattle.resolver.proofs.Resolution.{NoneHidden, complete}
use Rattle.resolver.proofs.Plain.{resolved-size}
use Rattle.resolver.proofs.Readable.{def_plain, axiom_plain}
use Rattle.resolver.proofs.Walked.{bare}
use Rattle.judge.specs.Judging.{Judged, BodyAt, with_body, no_body, EntryWritten}
use Rattle.judge.proofs.Cores.{checks_core, entry_core, stage_front, stage_next, decl_next}

-- What is resolved is written as an entry with or without a body.
pub entry_written : (tree : List ℕ) (gs : List Global) (d : Decl) (rest before : List ℕ) (start : ℕ) (after : List ℕ) (r : Result Declared Nowhere)
    → DeclResolves tree gs d rest before start after r → EntryWritten tree gs d rest before start after (result_ok r)
entry_written tree gs d rest before start after (Ok w) x = by w.body x
  where
    by : (o : Option ℕ) → Written tree gs d rest before start after o w.end w.behind
        → (c : Entry) × DeclWritten tree gs d rest before start after c w.end w.behind × BodyAt start o c
    by (Some b) x = (defined x.body x.type, x.written, with_body x.place)
    by None x = (assumed x.type, x.written, no_body)
entry_written tree gs d rest before start after (Err n) x = x.0

-- A plain term leaves nothing out where no global hides arguments.
basic-plain : (gs : List Global) (ys : List Name) → NoneHidden gs → (a : Expr) → basic a ≡ true → plain gs ys a ≡ true
basic-plain gs ys h (e_name x) p = cases_option (index_of ys x)
    (λ n. cases_option (lookup gs x) (λ m. rw (n, m) refl) (λ g m. rw (n, m, h x g m) refl)) (λ k q. rw q refl)
basic-plain gs ys h (e_at x ns) p = refl
basic-plain gs ys h (e_full x) p = refl
basic-plain gs ys h (e_sort i) p = refl
basic-plain gs ys h (e_pi x a b) p = and_true (basic a) (basic b) p λ q r. rw (basic-plain gs ys h a q, basic-plain gs (x ∷ ys) h b r) refl
basic-plain gs ys h (e_lam x a b) p = and_true (basic a) (basic b) p λ q r. rw (basic-plain gs ys h a q, basic-plain gs (x ∷ ys) h b r) refl
basic-plain gs ys h (e_app f a) p = and_true (basic f) (basic a) p λ q r. rw (basic-plain gs ys h f q, basic-plain gs ys h a r) refl
basic-plain gs ys h e_hole p = false-true p
basic-plain gs ys h (e_by a) p = false-true p
basic-plain gs ys h (e_have x a b c) p = false-true p

decl_plain : (gs : List Global) → NoneHidden gs → (d : Decl) → basic_decl d ≡ true → plain_decl gs d ≡ true
decl_plain gs h (d_def x k a b) p = and_true (basic a) (basic b) p λ q r. rw (basic-plain gs [] h a q, basic-plain gs [] h b r) refl
decl_plain gs h (d_axiom x k a) p = basic-plain gs [] h a p
decl_plain gs h (d_data x k ps l cs) p = false-true p

-- The entry has the nodes of what is written.
elab_size : {gs : List Global} → NoneHidden gs → {ys : List Name} {a : Expr} {t : Term} → Elab gs ys a t → basic a ≡ true → size t ≡ nodes a
elab_size {gs} h {ys} {a} {t} p b = ap size (sym (complete h p b).1) ∙ resolved-size gs ys a

entry_nodes : {gs : List Global} → NoneHidden gs → {d : Decl} {c : Entry} → ElabDecl gs d c → basic_decl d ≡ true → entry_size c ≡ decl_nodes d
entry_nodes h (el_def {a = a} {b = b} p q) s = and_true (basic a) (basic b) s λ u v. omega (arith, elab_size h p u, elab_size h q v)
entry_nodes h (el_axiom p) s = elab_size h p s
entry_nodes h (el_data p q) s = false-true s

-- What is known of a declaration of the core.
pub record Next (gs : List Global) (d : Decl) : Type 0 where
  pub basic : basic_decl d ≡ true
  pub shown : unhidden d ≡ true
  pub plain : plain_decl gs d ≡ true
  pub core : (c : Entry) → ElabDecl gs d c → CoreEntry c
  pub nodes : (c : Entry) → ElabDecl gs d c → entry_size c ≡ decl_nodes d

plain_next : {s : List Name} (d : Decl) → IsDecl s d → decl_stage d < 1 → (basic_decl d ≡ true) × (unhidden d ≡ true)
plain_next (d_def x h a b) i st = def_plain i (omega arith)
plain_next (d_axiom x h a) i st = axiom_plain i (omega arith)
plain_next (d_data x h ps l cs) i st = absurd (let z : ⊥ = omega arith in z)

pub next : {t tree table : List ℕ} {done rest : List Decl} {d : Decl} {gs : List Global} {e : Env} → Judged t done (d ∷ rest) gs e → GlobalsAt tree table gs → Next gs d
next {done = done} {rest = rest} {d = d} {gs = gs} j g =
    let w = decl_next done rest d j.reads.said in
    let early : stage (done ++ (d ∷ rest)) < 1 = omega (arith, j.in_stage) in
    let st = stage_next done rest d 1 early in
    let p = plain_next d w.is st in
    record {
      basic = p.0;
      shown = p.1;
      plain = decl_plain gs (bare g) d p.0;
      core = λ c x. entry_core (checks_core j.checks (stage_front done (d ∷ rest) 1 early)) (bare g) w.is st x;
      nodes = λ c x. entry_nodes (bare g) x p.0;
    }

-- A definition's entry and an axiom's, put behind the environment.
pub entered_definition : (index store index' store' : List ℕ) (count used b : ℕ) (o : Option ℕ) (c : Entry) → BodyAt (used + 3) o c → o ≡ Some b
    → ((t a : Term) → b ≡ used + 3 + 3 * size a → Extends index store count used index' store' (defined t a) (put a (put t []))) → Extends index store count used index' store' c (put_entry c)
entered_definition index store index' store' count used b _ _ (with_body {b = d} {t = t} {a = a} p) q f = f t a (same_body (used + 3 + 3 * size a) q p)
  where
    same_body : (k : ℕ) → Some d ≡ Some b → d ≡ k → b ≡ k
    same_body k e p = cc
entered_definition index store index' store' count used b _ _ no_body q f = absurd (let z : ◌≡◌ {A = ℕ} 0 1 = cc in (let f : ⊥ = omega arith in f))

pub entered_axiom : (index store index' store' : List ℕ) (count used : ℕ) (o : Option ℕ) (c : Entry) → BodyAt (used + 3) o c → o ≡ None
    → ((a : Term) → Extends index store count used index' store' (assumed a) (put a [])) → Extends index store count used index' store' c (put_entry c)
entered_axiom index store index' store' count used _ _ (with_body p) q f = absurd (let z : ◌≡◌ {A = ℕ} 0 1 = cc in (let f : ⊥ = omega arith in f))
entered_axiom index store index' store' count used _ _ (no_body {a = a}) q f = f a

-- The environment of the core has no data types.
core_entry : {gs : List Global} {d : Decl} {c : Entry} → ElabDecl gs d c → decl_stage d < 1 → (k : DataType) → entry_data c ≡ some k → ⊥
core_entry (el_def p q) st k e = none-some e
core_entry (el_axiom p) st k e = none-some e
core_entry (el_data p q) st k e = omega arith

pub checks_plain : {ds : List Decl} {gs : List Global} {e : Env} → Checks ds gs e → stage ds < 1 → (i : ℕ) (k : DataType) → data_at e i ≡ some k → ⊥
checks_plain checks_end st i k p = none-some p
checks_plain (checks_more {ds = ds} {e = e} {d = d} {c = c} h a f) st i k p =
    option-some (get_elem? (e ++ (c ∷ [])) i) entry_data p λ x q r.
    get_snoc e c i q (λ s. checks_plain h (stage_front ds (d ∷ []) 1 st) i k (rw s r)) (λ s u. core_entry a.0 (stage_next ds [] d 1 st) k (ap entry_data u ∙ r))

-- The words of an entry, and its terms.
pub entry_long : (c : Entry) {o : Option ℕ} {start : ℕ} → BodyAt start o c → length (put_entry c) ≡ 3 * entry_size c
entry_long c (with_body {t = t} {a = a} p) = omega (arith, put-length a (put t []), put-length t [])
entry_long c (no_body {a = a}) = omega (arith, put-length a [])
