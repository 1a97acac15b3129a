-- The next declaration's entry, written behind the store: its terms stand there, it can be given to the kernel, and what the kernel
-- finds of it is found of the declaration.
use Rattle.std.proofs.Common.{◌≡◌, ℕ, ◌+◌, ◌*◌, ◌/◌, ◌-◌, ◌≤◌, true, List, [], ◌∷◌, ◌++◌, length, take, drop, Option, Err, sym, refl, ap, ◌∙◌, subst as tr, length-append, length-drop, length-take, arith}
use Rattle.theory.proofs.Options.{false-true}
use Rattle.theory.specs.Environment.{Entry, defined, assumed, inductive, Env}
use Rattle.theory.specs.Question.{entry_size}
use Rattle.theory.specs.Reduction.{conv_refl}
use Rattle.theory.specs.Typing.{WfEntry}
use Rattle.terms.specs.Words.{At, put}
use Rattle.terms.specs.Writing.{Appends}
use Rattle.terms.proofs.Nodes.{put_append}
use Rattle.terms.proofs.Subterms.{at_next}
use Rattle.terms.proofs.Appending.{append_keeps, append_stands}
use Rattle.syntax.specs.Surface.{Decl, d_def, d_axiom, d_data, decl_names, names_of}
use Rattle.syntax.specs.Tree.{put_decls}
use Rattle.elaboration.specs.Elaboration.{Global}
use Rattle.elaboration.specs.Declarations.{ConvEntry, conv_defined, conv_assumed, Forced, globals_of}
use Rattle.elaboration.proofs.ChecksWf.{checks_wf}
use Rattle.resolver.specs.Entries.{decl_nodes, put_entry, DeclWritten, DeclSetting}
use Rattle.resolver.specs.declared.declarations.Declared.{Declared as Written}
use Rattle.reduction.specs.Store.{EnvAt}
use Rattle.reduction.specs.Lookup.{Declared as Extends}
use Rattle.resolver.specs.Names.{GlobalsAt}
use Rattle.resolver.specs.Resolving.{basic_decl}
use Rattle.kernel.specs.Checking.{CoreEntry}
use Rattle.kernel.specs.declared.failure.Failure.{Failure}
use Rattle.kernel.specs.declared.failure.Failure.TheVariants.{Refused, Spent, NoRoom}
use Rattle.reduction.proofs.Declaring.{env_longer}
use Rattle.judge.specs.Judging.{BodyAt, with_body, no_body, Ordered, TermsAt, definition_at, axiom_at, Judging, Entering, Settles, Steps}
use Rattle.judge.proofs.Standings.{go_on}
use Rattle.judge.specs.declared.row.Spot.{Spot}
use Rattle.judge.proofs.Going.{Next, next, entry_long, checks_plain}
use Rattle.judge.proofs.Sizes.{decl_length, names_few, entry_few}
use Rattle.judge.proofs.Cores.{stage_front}

-- The terms of an entry that was written stand where they were written.
pub terms_at : {before after : List ℕ} {start end : ℕ} {o : Option ℕ} {c : Entry} → start ≤ length before → Appends before start (put_entry c) after end → BodyAt start o c → TermsAt after start o c
terms_at {before} {after} {start} {end} l w (with_body {t = t} {a = a} p) =
    let x : At after start a (put t (drop end after)) =
    record { stands = append_stands before after start end (put a (put t [])) l w ∙ sym (put_append a (put t []) (drop end after)) ∙ ap (put a) (sym (put_append t [] (drop end after))) } in
    definition_at x (tr (λ (b : ℕ). At after b t (drop end after)) (sym p) (at_next after start a t (drop end after) x))
terms_at {before} {after} {start} {end} l w (no_body {a = a}) =
    axiom_at (record { stands = append_stands before after start end (put a []) l w ∙ sym (put_append a [] (drop end after)) })

-- A body is behind its type.
pub ordered : {start : ℕ} {o : Option ℕ} {c : Entry} → BodyAt start o c → Ordered start o
ordered (with_body p) = omega arith
ordered no_body = tt

-- An entry of the core is convertible with itself.
conv_self : {e : Env} (c : Entry) → CoreEntry c → ConvEntry e c c
conv_self (defined t a) k = conv_defined conv_refl conv_refl
conv_self (assumed a) k = conv_assumed conv_refl
conv_self (inductive k) z = absurd z

-- A plain declaration declares one name.
one_name : (d : Decl) → basic_decl d ≡ true → length (decl_names d) ≡ 1
one_name (d_def x h a b) p = refl
one_name (d_axiom x h a) p = refl
one_name (d_data x h ps l cs) p = false-true p

module _ {t tree index table store : List ℕ} {words : ℕ} {s : Spot} {done rest : List Decl} {d : Decl} {gs : List Global} {e : Env} (j : Judging t tree index table store words s done (d ∷ rest) gs e) where
  pub known : Next gs d
  known = next j.judged j.globals

  -- There is room to resolve it, and its nodes are few.
  pub room : s.used + 3 + 3 * decl_nodes d ≤ length store
  room = omega (arith, j.store_room, entry_few d known.basic, names_few rest, decl_length d rest, length-append (decl_names d) (names_of rest))

  depth : decl_nodes d ≤ words
  depth = omega (arith, j.words_room, entry_few d known.basic, decl_length d rest)

  few : decl_nodes d ≤ 262144
  few = omega (arith, j.tree_short, ap length j.tree_at, length-drop s.place tree, entry_few d known.basic, decl_length d rest)

  pub setting : (names : List ℕ) → length names ≡ words → DeclSetting tree s.place (take s.rows table) names store (s.used + 3) gs d (put_decls rest [])
  setting names l = record { globals = j.globals; stands = j.tree_at; plain = known.basic; room = room; depth = omega (arith, depth) }

  module _ {store' : List ℕ} {w : Written} {c : Entry} (x : DeclWritten tree gs d (put_decls rest []) store (s.used + 3) store' c w.end w.behind) (b : BodyAt (s.used + 3) w.body c) where
    pub ends : w.end ≡ s.used + 3 + 3 * entry_size c
    ends = omega (arith, x.writes.ends, entry_long c b)

    old_kept : take s.used store' ≡ take s.used store
    old_kept = append_keeps store store' (s.used + 3) w.end s.used (put_entry c) (omega arith) (omega (arith, room)) x.writes

    pub stored_still : EnvAt (take (2 * s.count) index) (take s.used store') e
    stored_still = tr (λ (ws : List ℕ). EnvAt (take (2 * s.count) index) ws e) (sym old_kept) j.stored

    pub entering : Entering (take (2 * s.count) index) store' (s.used + 3) w.body ((w.end - (s.used + 3)) / 3) e c
    entering = record {
      wf = checks_wf done gs e j.judged.checks;
      stored = record { at = env_longer (take (2 * s.count) index) store' s.used e stored_still; plain = checks_plain j.judged.checks (stage_front done (d ∷ rest) 1 (omega (arith, j.judged.in_stage))) };
      terms_at = terms_at (omega (arith, room)) x.writes b;
      core = known.core c x.elab;
      nodes_are = omega (arith, ends);
      few = omega (arith, ends, few, known.nodes c x.elab);
    }

    -- What the kernel does not accept.
    pub failed : (most room : ℕ) (index' table' store'' : List ℕ) (f : Failure) → Settles e c most room (Err f) → Steps t tree index' table' store'' words most room done d rest gs e (Err f)
    failed most room index' table' store'' Refused n = λ b a. n (tr (WfEntry e) (x.unique b a.0) a.1)
    failed most room index' table' store'' Spent l = (c, record { plain = known.plain; elab = x.elab }, l)
    failed most room index' table' store'' NoRoom l = (c, record { plain = known.plain; elab = x.elab }, l)

    forced : Forced gs e d c
    forced b a = tr (ConvEntry e c) (sym (x.unique b a.0)) (conv_self c (known.core c x.elab))

    -- Judging stands behind the declaration.
    pub moved : (index' table' store'' : List ℕ) (words' rows number : ℕ) → words' ≡ words → length index' ≡ length index → length table' ≡ length table → length store'' ≡ length store → rows ≡ s.rows + 4
        → number ≡ s.count → WfEntry e c → Extends index store' s.count s.used index' store'' c (put_entry c) → GlobalsAt tree (take rows table') (gs ++ globals_of number d)
        → Judging t tree index' table' store'' words' (record { place = w.behind; count = s.count + 1; rows = rows; used = w.end }) (done ++ (d ∷ [])) rest (gs ++ globals_of (length e) d) (e ++ (c ∷ []))
    moved index' table' store'' words' rows number lw li lt ls r n wf extends globals = record {
      judged = go_on t 0 0 done gs e d rest j.judged c (x.elab, wf) forced;
      count = omega (arith, j.count, length-append done (d ∷ []));
      tree_at = x.goes_on;
      tree_short = j.tree_short;
      all_few = omega (arith, j.all_few);
      globals = tr (λ (k : ℕ). GlobalsAt tree (take rows table') (gs ++ globals_of k d)) (let z : number ≡ length e = omega (arith, n, counted) in z) globals;
      stored = extends e w.end stored_still (record { ends = x.writes.ends; words = x.writes.words ∙ ap (λ (ws : List ℕ). ws ++ put_entry c) (sym (append_keeps store store' (s.used + 3) w.end (s.used + 3) (put_entry c) (omega arith) (omega (arith, room)) x.writes)) });
      index_room = omega (arith, j.index_room);
      table_room = omega (arith, j.table_room, one_name d known.basic, length-append (decl_names d) (names_of rest));
      store_room = omega (arith, j.store_room, ends, known.nodes c x.elab, entry_few d known.basic, decl_length d rest, length-append (decl_names d) (names_of rest));
      words_room = omega (arith, j.words_room, decl_length d rest);
    }
      where
        counted : s.count ≡ length e
        counted = omega (arith, j.stored.counted, length-take (2 * s.count) index, j.index_room)
