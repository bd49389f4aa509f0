-- What one step does at each place, from what it sees: header, record, the shared word read, and at F3 the split key of cur.
-- The labels are those of the scope paper's steps; docs/LISTINGS.md has the listings' lines beside them.
use Rattle.std.specs.Prelude.{ℕ, ◌+◌, ◌*◌, ◌/◌, ◌%◌, Bool, not, ◌&&◌, ◌||◌, ◌==◌, nat_lt}
use Rattle.choice.specs.Choice.{pick}
use Rattle.split.specs.Split.{regular, dummy}
use Rattle.tree.specs.Tree.{parent_of, next_down}
use Rattle.words.specs.Words.{is_to}
use Rattle.names.specs.Names.{I1, SZ, TB, B2, B4, F1, F2, F3, F4, L2, B8, I8, I9, I10, D4A, D4B, D6, KEY, DUMMY, EXTRA, INSERT, FIND}
use Rattle.names.specs.declared.Answer.TheVariants.{Yes, No, NoKeyNode, NoDummy}
use Rattle.header.specs.Header.{count_up, count_down, nodes_of, doubles}
use Rattle.record.specs.Fields.{to, with_errand, with_wanted, with_making, with_size, with_start, with_held, with_dummy}
use Rattle.record.specs.Worker.{coming_to, reading}
use Rattle.record.specs.declared.Worker.{Worker}
use Rattle.moves.specs.declared.Seen.{Seen}
use Rattle.acts.specs.declared.Effect.{Effect}
use Rattle.acts.specs.declared.Effect.TheVariants.{Nothing, TakeKey, TakeDummy, Free, Aim, Place, Mark, Unlink, Store, Count, Size}
use Rattle.acts.specs.declared.Move.{Move}
use Rattle.acts.specs.declared.Move.TheVariants.{Damaged, Going, Ended}

-- ---- small words
-- "a link read is above 2N+1", "a bucket word read is above N"
unfoldable pub bad_link : Seen → Bool
bad_link s = nat_lt (nodes_of s.header * 2 + 1) s.word

abbrev pub bad_bucket : Seen → Bool
bad_bucket s = nat_lt (nodes_of s.header) s.word

-- the wanted split key
unfoldable pub want_of : Worker → ℕ
want_of x = pick (x.errand == DUMMY) (dummy x.making) (regular x.key)

-- the node that L2 puts on the chain
unfoldable pub held_for : Worker → ℕ
held_for x = pick (x.errand == DUMMY) x.dummy x.held

-- the worker goes on at another place, and nothing is written
abbrev pub on : Worker → Move
on x = Going x Nothing

-- ---- the ends of a search
-- not found: L2 for an insert or a dummy; D6 after the extra search; no to a find or a delete
unfoldable pub not_found : Worker → Effect → Move
not_found x e =
    pick (x.errand == EXTRA) (Going (to D6 x) e)
    (pick (x.errand == DUMMY || x.kind == INSERT) (Going (to L2 x) e)
    (Ended No e))

-- found, for the key: an insert's no frees the held node; a find's yes; a delete goes to D4a
unfoldable pub found_key : Worker → Move
found_key x =
    pick (x.kind == INSERT) (pick (x.held == 0) Damaged (Ended No Nothing))
    (pick (x.kind == FIND) (Ended Yes Nothing)
    (on (to D4A x)))

-- found, for a dummy: the held node is free, cur is used in its place
unfoldable pub found : Worker → Move
found x =
    pick (x.errand == EXTRA) (on (to D6 x))
    (pick (x.errand == KEY) (found_key x)
    (pick (x.dummy == 0) Damaged
    (Going (to B8 (with_dummy x.cur x)) (Free x.dummy))))

-- the search comes to cur, after prev: 0 is not found, else F2
unfoldable pub comes : Worker → ℕ → ℕ → Effect → Move
comes x prev cur e =
    let y = coming_to prev cur x in
    pick (cur == 0) (not_found y e) (Going (to F2 y) e)

-- ---- the search, figure 14's list_find
unfoldable pub f1 : Seen → Move
f1 s =
    let x = s.worker in
    pick (x.start == 0 || bad_link s) Damaged
    (comes x x.start (s.word / 2) Nothing)

unfoldable pub f2 : Seen → Move
f2 s =
    let x = s.worker in
    pick (x.cur == 0 || bad_link s) Damaged
    (on (to F3 (reading s.word x)))

-- prev's link was unmarked with next cur
unfoldable pub judged : Seen → Move
judged s =
    let x = s.worker in
    pick x.marked (on (to F4 x))
    (pick (x.cur == 0) Damaged
    (pick (nat_lt s.split (want_of x)) (comes x x.cur x.next Nothing)
    (pick (s.split == want_of x) (found x)
    (not_found x Nothing))))

unfoldable pub f3 : Seen → Move
f3 s =
    let x = s.worker in
    pick (x.prev == 0 || bad_link s) Damaged
    (pick (is_to s.word x.cur) (judged s)
    (on (to F1 x)))

unfoldable pub f4 : Seen → Move
f4 s =
    let x = s.worker in
    pick (x.prev == 0 || bad_link s) Damaged
    (pick (is_to s.word x.cur)
    (pick (x.cur == 0) Damaged
    (comes x x.prev x.next (Unlink x.prev x.next x.cur s.header.busy)))
    (on (to F1 x)))

-- ---- the held node goes on the chain
unfoldable pub placed : Seen → ℕ → Move
placed s held =
    let x = s.worker in
    pick (x.errand == DUMMY) (Going (to B8 x) (Place held x.cur x.prev))
    (Going (to I8 (with_held 0 x)) (Place held x.cur x.prev))

-- the held node's link is written first: where prev is that node, the swap finds what was just written
unfoldable pub l2 : Seen → Move
l2 s =
    let x = s.worker in
    pick (held_for x == 0 || x.prev == 0 || (not (x.prev == held_for x) && bad_link s)) Damaged
    (pick (x.prev == held_for x || is_to s.word x.cur) (placed s (held_for x))
    (Going (to F1 x) (Aim (held_for x) x.cur)))

-- ---- buckets
unfoldable pub tb : Seen → Move
tb s =
    let x = s.worker in
    pick (bad_bucket s) Damaged
    (pick (s.word == 0) (on (to B2 (with_making x.wanted x)))
    (on (to F1 (with_start s.word (with_errand KEY x)))))

unfoldable pub b2 : Seen → Move
b2 s =
    let x = s.worker in
    pick (bad_bucket s) Damaged
    (pick (s.word == 0) (on (with_making (parent_of x.making) x))
    (on (to B4 (with_start s.word x))))

unfoldable pub b4 : Seen → Move
b4 s =
    let x = s.worker in
    pick (s.word == 0)
    (pick (x.kind == INSERT && x.held == 0) Damaged (Ended NoDummy Nothing))
    (Going (to F1 (with_errand DUMMY (with_dummy s.word x))) (TakeDummy s.word (dummy x.making)))

unfoldable pub b8 : Seen → Move
b8 s =
    let x = s.worker in
    let y = with_dummy 0 x in
    pick (x.dummy == 0) Damaged
    (pick (x.making == x.wanted) (Going (to TB y) (Store x.making x.dummy))
    (Going (to B2 (with_making (next_down x.wanted x.making) y)) (Store x.making x.dummy)))

-- ---- insert
unfoldable pub i1 : Seen → Move
i1 s =
    let x = s.worker in
    pick (s.word == 0) (Ended NoKeyNode Nothing)
    (Going (to SZ (with_held s.word x)) (TakeKey s.word (regular x.key)))

unfoldable pub sz : Seen → Move
sz s = on (to TB (with_wanted (s.worker.key % s.header.size) s.worker))

unfoldable pub i8 : Seen → Move
i8 s = on (to I9 (with_size s.header.size s.worker))

unfoldable pub i9 : Seen → Move
i9 s =
    let old = s.header.count in
    pick (doubles s.header s.worker.size old)
    (Going (to I10 s.worker) (Count (count_up old)))
    (Ended Yes (Count (count_up old)))

unfoldable pub i10 : Seen → Move
i10 s =
    let read = s.worker.size in
    pick (s.header.size == read) (Ended Yes (Size ((read + read) % 4294967296)))
    (Ended Yes Nothing)

-- ---- delete
unfoldable pub d4a : Seen → Move
d4a s =
    let x = s.worker in
    pick (x.cur == 0 || bad_link s) Damaged
    (pick (is_to s.word x.next) (Going (to D4B x) (Mark x.cur x.next))
    (on (to F1 (with_errand KEY x))))

unfoldable pub d4b : Seen → Move
d4b s =
    let x = s.worker in
    pick (x.prev == 0 || bad_link s) Damaged
    (pick (is_to s.word x.cur)
    (pick (x.cur == 0) Damaged
    (Going (to D6 x) (Unlink x.prev x.next x.cur s.header.busy)))
    (on (to F1 (with_errand EXTRA x))))

unfoldable pub d6 : Seen → Move
d6 s = Ended Yes (Count (count_down s.header.count))

-- ---- the place decides; a busy record that is not damaged is at one of these
unfoldable pub decided_at : ℕ → Seen → Move
decided_at p s =
    pick (p == I1) (i1 s)
    (pick (p == SZ) (sz s)
    (pick (p == TB) (tb s)
    (pick (p == B2) (b2 s)
    (pick (p == B4) (b4 s)
    (pick (p == F1) (f1 s)
    (pick (p == F2) (f2 s)
    (pick (p == F3) (f3 s)
    (pick (p == F4) (f4 s)
    (pick (p == L2) (l2 s)
    (pick (p == B8) (b8 s)
    (pick (p == I8) (i8 s)
    (pick (p == I9) (i9 s)
    (pick (p == I10) (i10 s)
    (pick (p == D4A) (d4a s)
    (pick (p == D4B) (d4b s)
    (pick (p == D6) (d6 s)
    Damaged))))))))))))))))

unfoldable pub decided : Seen → Move
decided s = decided_at s.worker.place s
