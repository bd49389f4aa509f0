-- A call that passes is lent enough words; clearing makes them 0, and two stores do the rest.
-- Assumes nothing.
use Prim.Native.Nat.{ℕ, zero, suc, ◌+◌, ◌*◌, ◌≤◌, ◌<◌}
use mathlib.Core.Bool.{Bool, true, false, true≢false, ◌||◌}
use mathlib.Core.List.{List}
use mathlib.Core.Path.{◌≡◌, refl, sym, ap, ◌∙◌}
use native.Mathlib.Decide.{ℕ_discrete}
use native.Mathlib.Omega.{arith}
use borrow.Author.Tests.{ltb-false}
use lib.Dec.{ltb}
use lib.ListN.{length}
use lib.Seq.{get_or-set_other}
use Rattle.std.specs.Prelude.{Ok}
use Rattle.choice.proofs.Cases.{by_bool}
use Rattle.words.specs.Words.{Tables, lengths, STANDING, TAKEN, word, put, bucket, store}
use Rattle.words.proofs.Laws.{put_at, put_same, put_node, put_word, put_length, store_same, store_other, store_length}
use Rattle.scans.specs.Scans.{cleared}
use Rattle.scans.proofs.Laws.{cleared_length, cleared_below, cleared_beyond}
use Rattle.names.specs.Names.{refuses}
use Rattle.names.specs.declared.Answer.{Answer}
use Rattle.names.specs.declared.Answer.TheVariants.{Going, Limit, Short}
use Rattle.header.specs.declared.Header.{Header}
use Rattle.header.specs.Header.{nodes_of, limit_broken}
use Rattle.header.proofs.Rows.{limits}
use Rattle.prepare.specs.declared.Limits.{Limits}
use Rattle.names.specs.Verdicts.{Verdict}
use Rattle.prepare.specs.Prepare.{fresh_header, prepare_verdict, prepared_by, prepared}
use Rattle.header.specs.Header.{is_short}
use Rattle.promises.specs.Fresh.{Fresh, PrepareFresh}

-- a refusal is not going on
refusing : {X : Type 0} (a : Answer) → refuses a ≡ true → a ≡ Going → X
refusing a r e = absurd (true≢false (sym r ∙ ap refuses e))

or_false : (a b : Bool) → (a || b) ≡ false → (a ≡ false) × (b ≡ false)
or_false true b e = absurd (true≢false e)
or_false false b e = (refl, e)

-- the tables' own words: enough of them, and a node and a bucket among them
record Room (l : Limits) (ts : Tables) : Type 0 where
  some : 2 ≤ l.m
  nodes : nodes_of (fresh_header l) * 3 ≤ length ts.nodes
  buckets : l.m ≤ length ts.buckets

room : (l : Limits) (ts : Tables) → limit_broken (fresh_header l) ≡ false → is_short (fresh_header l) (lengths ts) ≡ false → Room l ts
unfolding is_short
room l ts fine long =
    let both = or_false (ltb (length ts.nodes) (nodes_of (fresh_header l) * 3)) (ltb (length ts.buckets) l.m) long in
    record {
      some = ((limits (fresh_header l)).sound fine).buckets.0;
      nodes = ltb-false (length ts.nodes) (nodes_of (fresh_header l) * 3) both.0;
      buckets = ltb-false (length ts.buckets) l.m both.1;
    }

module _ (l : Limits) (h : Header) (ts : Tables) (r : Room l ts) where
  N : ℕ
  N = nodes_of (fresh_header l)

  ms : List ℕ
  ms = cleared (N * 3) ts.nodes

  cs : List ℕ
  cs = cleared l.m ts.buckets

  zeros : (n j : ℕ) → j < 3 → n ≤ N → word ms n j ≡ 0
  unfolding ms word
  zeros zero j hj hn = refl
  zeros (suc n) j hj hn = cleared_below (N * 3) ts.nodes (3 * n + j) (omega arith)

  node_words : (n j : ℕ) → j < 3 → n ≤ N → ((n ≡ 1) × (j ≡ STANDING) → ⊥) → word (put ms 1 STANDING TAKEN) n j ≡ 0
  node_words n j hj hn other = by_node (ℕ_discrete n 1)
    where
      by_word : n ≡ 1 → Dec (j ≡ STANDING) → word (put ms 1 STANDING TAKEN) n j ≡ 0
      by_word one (yes e) = absurd (other (one, e))
      by_word one (no ne) = put_word ms 1 STANDING TAKEN n j (omega arith) hj ne ∙ zeros n j hj hn

      by_node : Dec (n ≡ 1) → word (put ms 1 STANDING TAKEN) n j ≡ 0
      by_node (yes one) = by_word one (ℕ_discrete j STANDING)
      by_node (no ne) = put_node ms 1 STANDING TAKEN n j (omega arith) hj ne ∙ zeros n j hj hn

  long : 3 * 1 ≤ length ms
  unfolding ms N
  long = omega (arith, cleared_length (nodes_of (fresh_header l) * 3) ts.nodes, r.some, r.nodes)

  fresh : Fresh l ts (prepared_by l h ts (Ok tt))
  unfolding ms cs N bucket store
  fresh =
      record {
        header = refl;
        first_taken = put_same ms 1 STANDING TAKEN (omega arith) (omega arith) long;
        node_words = node_words;
        first_bucket = store_same cs 0 1 (omega (arith, cleared_length l.m ts.buckets, r.some, r.buckets));
        bucket_words = λ b hb ne. store_other cs 0 1 b ne ∙ cleared_below l.m ts.buckets b hb;
        past_nodes = λ i hi. rw (put_at ms 1 STANDING TAKEN (omega arith)) (get_or-set_other ms 2 i TAKEN 0 (omega (arith, r.some)) ∙ cleared_beyond (nodes_of (fresh_header l) * 3) ts.nodes i hi);
        past_buckets = λ b hb. get_or-set_other cs 0 b 1 0 (omega (arith, r.some)) ∙ cleared_beyond l.m ts.buckets b hb;
        nodes_length = put_length ms 1 STANDING TAKEN ∙ cleared_length (nodes_of (fresh_header l) * 3) ts.nodes;
        buckets_length = store_length cs 0 1 ∙ cleared_length l.m ts.buckets;
      }

pub prepare_fresh : PrepareFresh
unfolding prepared prepare_verdict
prepare_fresh l h ts =
    by_bool P _ (λ _. refusing Limit refl)
    (λ fine. by_bool P _ (λ _. refusing Short refl) (λ long _. fresh l h ts (room l ts fine long)))
  where
    P : Verdict → Type 0
    P v = (prepared_by l h ts v).out.answer ≡ Going → Fresh l ts (prepared_by l h ts v)
