-- Each row of the record is a test joined of comparisons and of classes of places, and a path is the parents taken one by one.
-- Assumes nothing.
use Prim.Native.Nat.{ℕ, zero, suc, ◌≤◌}
use native.Mathlib.Omega.{arith}
use mathlib.Core.Path.{◌≡◌, refl}
use mathlib.Core.Logic.{◌⊎◌, inl, inr}
use mathlib.Core.Bool.{Bool, true, false, ◌||◌, ◌&&◌, not, or_assoc}
use lib.Dec.{ltb, eqb}
use lib.ListN.{length}
use borrow.Author.Tests.{eqb-true, eqb-false}
use Rattle.choice.proofs.Exactly.{Tells}
use Rattle.choice.proofs.Telling.{tells_eq, tells_lt, tells_le, tells_or, tells_and, tells_not, tells_broken, Clears, clears_as, clears_eq, clears_lt, clears_not, clears_or, clears_and}
use Rattle.tree.specs.Tree.{parent_of, on_path}
use Rattle.tree.proofs.Laws.Path.{along_path, on_path_self, on_path_below}
use Rattle.sets.specs.Sets.{bit, is_in}
use Rattle.names.specs.Names.{IDLE, L2, I10, KEY, DUMMY, EXTRA, INSERT, DELETE, KEY_LIMIT}
use Rattle.names.specs.Places.{searching, bucket_in_making, insert_only, delete_only, size_remembered, places}
use Rattle.header.specs.Header.{nodes_of}
use Rattle.header.specs.declared.Header.{Header}
use Rattle.header.proofs.Rows.{power_up_to_lem}
pub use Rattle.faults.proofs.Idle.{idle_not_zero_lem}
use Rattle.faults.proofs.Listed.{one_of_from, from_one_of, clears_from, tells_class}
use Rattle.faults.specs.Faults.{unknown_name, key_above, bucket_beyond, node_beyond, bit_disagrees, kind_misfit, errand_misfit, making_astray, size_misfit, worker_damaged}
use Rattle.faults.specs.Rows.{KnownKind, UnknownName, KeyAbove, BucketBeyond, NodeBeyond, BitDisagrees, KindMisfit, ErrandMisfit, parents, OnPath, MakingAstray, SizeMisfit, WorkerDamaged}
use Rattle.record.specs.declared.Worker.{Worker}

-- a kind not above 3 is known unless it is 0 on a record that is not idle
known_kind : (x : Worker) → Clears (ltb DELETE x.kind || (eqb x.kind 0 && not (eqb x.place IDLE))) (KnownKind x)
known_kind x =
    clears_as (λ p. there p.0 p.1) back
    (clears_or (clears_lt DELETE x.kind) (clears_and (clears_eq x.kind 0) (clears_not (tells_eq x.place IDLE))))
  where
    there : x.kind ≤ DELETE → (x.kind ≡ 0 → ⊥) ⊎ (x.place ≡ IDLE) → KnownKind x
    there l (inl ne) = inl (one_of_from 1 3 x.kind (omega arith) (omega arith))
    there l (inr i) = at (eqb x.kind 0) refl
      where
        at : (t : Bool) → eqb x.kind 0 ≡ t → KnownKind x
        at true e = inr (eqb-true x.kind 0 e, i)
        at false e = let ne = eqb-false x.kind 0 e in inl (one_of_from 1 3 x.kind (omega arith) (omega arith))

    back : KnownKind x → (x.kind ≤ DELETE) × ((x.kind ≡ 0 → ⊥) ⊎ (x.place ≡ IDLE))
    back (inl o) = let b = from_one_of 1 3 x.kind o in (omega arith, inl (λ e. omega arith))
    back (inr p) = (omega arith, inr p.1)

-- "the record has an unknown place, errand or kind"
pub unknown_name_lem : (x : Worker) → Tells (unknown_name x) (UnknownName x)
unfolding unknown_name
unknown_name_lem x =
    simp or_assoc
    (tells_or
    (tells_broken (clears_from (length places) x.place))
    (tells_or (tells_broken (clears_from (suc EXTRA) x.errand)) (tells_broken (known_kind x))))

-- "a key above the limit"
pub key_above_lem : (key : ℕ) → Tells (key_above key) (KeyAbove key)
key_above_lem key = tells_lt KEY_LIMIT key

-- "a bucket at M or above"
pub bucket_beyond_lem : (h : Header) (x : Worker) → Tells (bucket_beyond h x) (BucketBeyond h x)
unfolding bucket_beyond
bucket_beyond_lem h x = tells_or (tells_le h.m x.wanted) (tells_le h.m x.making)

-- "a node number above N"
pub node_beyond_lem : (h : Header) (x : Worker) → Tells (node_beyond (nodes_of h) x) (NodeBeyond h x)
unfolding node_beyond
node_beyond_lem h x =
    let n = nodes_of h in
    simp or_assoc
    (tells_or (tells_lt n x.start)
    (tells_or (tells_lt n x.prev)
    (tells_or (tells_lt n x.cur)
    (tells_or (tells_lt n x.next)
    (tells_or (tells_lt n x.held)
    (tells_lt n x.dummy))))))

-- a record's busy bit
busy_bit : (w s : ℕ) → Tells (is_in w s) (bit w s ≡ 1)
unfolding is_in
busy_bit w s = tells_eq (bit w s) 1

-- "or disagrees with its busy bit"
pub bit_disagrees_lem : (h : Header) (w : ℕ) (x : Worker) → Tells (bit_disagrees h w x) (BitDisagrees h w x)
unfolding bit_disagrees
bit_disagrees_lem h w x =
    let busy = busy_bit w h.busy in
    let is_idle = tells_eq x.place IDLE in
    tells_or (tells_and busy is_idle) (tells_and (tells_not busy) (tells_not is_idle))

-- "I-steps need insert, D-steps delete"
pub kind_misfit_lem : (x : Worker) → Tells (kind_misfit x) (KindMisfit x)
unfolding kind_misfit
kind_misfit_lem x =
    tells_or
    (tells_and (tells_class insert_only refl refl x.place) (tells_not (tells_eq x.kind INSERT)))
    (tells_and (tells_class delete_only refl refl x.place) (tells_not (tells_eq x.kind DELETE)))

-- "L2 a dummy or an insert, the extra search a delete"
pub errand_misfit_lem : (x : Worker) → Tells (errand_misfit x) (ErrandMisfit x)
unfolding errand_misfit
errand_misfit_lem x =
    tells_or
    (tells_and (tells_eq x.place L2)
    (tells_not (tells_or (tells_eq x.errand DUMMY) (tells_and (tells_eq x.errand KEY) (tells_eq x.kind INSERT)))))
    (tells_and
    (tells_and (tells_class searching refl refl x.place) (tells_eq x.errand EXTRA))
    (tells_not (tells_eq x.kind DELETE)))

-- up the path: each parent on it is one more parent taken
path_sound : (b a : ℕ) → on_path b a ≡ true → OnPath b a
path_sound b a on = along_path (λ (y : ℕ). OnPath y a) a (0, refl) (λ y _ _ up. (suc up.0, up.1)) b on

-- and what is on the parent's path is on the bucket's
path_complete : (n b a : ℕ) → parents n b ≡ a → on_path b a ≡ true
path_complete zero b a e = rw (← e) (on_path_self b)
path_complete (suc n) b a e = on_path_below b a (path_complete n (parent_of b) a e)

-- "on the wanted bucket's path"
pub on_path_lem : (b a : ℕ) → Tells (on_path b a) (OnPath b a)
on_path_lem b a = record { sound = path_sound b a; complete = λ p. path_complete p.0 b a p.1 }

-- "the bucket being made at B2, B4 or B8 isn't a non-zero one on the wanted bucket's path"
pub making_astray_lem : (x : Worker) → Tells (making_astray x) (MakingAstray x)
unfolding making_astray
making_astray_lem x =
    tells_and
    (tells_class bucket_in_making refl refl x.place)
    (tells_broken (clears_or (clears_eq x.making 0) (clears_not (on_path_lem x.wanted x.making))))

-- "a size remembered for I9 or I10 isn't a power of two from 2 to M (for I10, below M)"
pub size_misfit_lem : (h : Header) (x : Worker) → Tells (size_misfit h x) (SizeMisfit h x)
unfolding size_misfit
size_misfit_lem h x =
    tells_and
    (tells_class size_remembered refl refl x.place)
    (tells_or
    (tells_not (power_up_to_lem h.m x.size))
    (tells_and (tells_eq x.place I10) (tells_le h.m x.size)))

-- 12, the record's own part
pub worker_damaged_lem : (h : Header) (w : ℕ) (x : Worker) → Tells (worker_damaged h w x) (WorkerDamaged h w x)
unfolding worker_damaged
worker_damaged_lem h w x =
    simp or_assoc
    (tells_or (unknown_name_lem x)
    (tells_or (key_above_lem x.key)
    (tells_or (bucket_beyond_lem h x)
    (tells_or (node_beyond_lem h x)
    (tells_or (bit_disagrees_lem h w x)
    (tells_or (idle_not_zero_lem x)
    (tells_or (kind_misfit_lem x)
    (tells_or (errand_misfit_lem x)
    (tells_or (making_astray_lem x)
    (size_misfit_lem h x))))))))))
