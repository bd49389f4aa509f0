-- The record's own faults, a row each: the tests that 12 runs.
use Rattle.std.specs.Prelude.{ℕ, Bool, not, ◌&&◌, ◌||◌, leb, ltb, eqb}
use Rattle.tree.specs.Tree.{on_path, power_up_to}
use Rattle.sets.specs.Sets.{is_in}
use Rattle.names.specs.Names.{IDLE, L2, I10, KEY, DUMMY, EXTRA, INSERT, DELETE, KEY_LIMIT}
use Rattle.names.specs.Places.{no_place, makes, needs_insert, needs_delete, remembers_size}
use Rattle.header.specs.Header.{nodes_of}
use Rattle.header.specs.declared.Header.{Header}
use Rattle.record.specs.declared.Worker.{Worker}
use Rattle.record.specs.Worker.{searches_for}

-- "the record has an unknown place, errand or kind": a busy record's kind is 1, 2 or 3
unfoldable pub unknown_name : Worker → Bool
unknown_name x = no_place x.place || ltb EXTRA x.errand || ltb DELETE x.kind || (eqb x.kind 0 && not (eqb x.place IDLE))

-- "a key above the limit"
abbrev pub key_above : ℕ → Bool
key_above key = ltb KEY_LIMIT key

-- "a bucket at M or above"
unfoldable pub bucket_beyond : Header → Worker → Bool
bucket_beyond h x = leb h.m x.wanted || leb h.m x.making

-- "a node number above N"
unfoldable pub node_beyond : ℕ → Worker → Bool
node_beyond n x = ltb n x.start || ltb n x.prev || ltb n x.cur || ltb n x.next || ltb n x.held || ltb n x.dummy

-- "or disagrees with its busy bit"
unfoldable pub bit_disagrees : Header → ℕ → Worker → Bool
bit_disagrees h w x = (is_in w h.busy && eqb x.place IDLE) || (not (is_in w h.busy) && not (eqb x.place IDLE))

-- "an idle record's other fields must be 0"
unfoldable pub idle_not_zero : Worker → Bool
idle_not_zero x = eqb x.place IDLE && (ltb 0 x.errand || ltb 0 x.kind || ltb 0 x.key || ltb 0 x.wanted || ltb 0 x.making || ltb 0 x.size || ltb 0 x.start || ltb 0 x.prev || ltb 0 x.cur || ltb 0 x.next || x.marked || ltb 0 x.held || ltb 0 x.dummy || ltb 0 x.steps)

-- "I-steps need insert, D-steps delete"
unfoldable pub kind_misfit : Worker → Bool
kind_misfit x = (needs_insert x.place && not (eqb x.kind INSERT)) || (needs_delete x.place && not (eqb x.kind DELETE))

-- "L2 a dummy or an insert, the extra search a delete"
unfoldable pub errand_misfit : Worker → Bool
errand_misfit x =
    (eqb x.place L2 && not (eqb x.errand DUMMY || (eqb x.errand KEY && eqb x.kind INSERT)))
    || (searches_for EXTRA x && not (eqb x.kind DELETE))

-- "the bucket being made at B2, B4 or B8 isn't a non-zero one on the wanted bucket's path"
unfoldable pub making_astray : Worker → Bool
making_astray x = makes x.place && (eqb x.making 0 || not (on_path x.wanted x.making))

-- "a size remembered for I9 or I10 isn't a power of two from 2 to M (for I10, below M)"
unfoldable pub size_misfit : Header → Worker → Bool
size_misfit h x = remembers_size x.place && (not (power_up_to h.m x.size) || (eqb x.place I10 && leb h.m x.size))

-- one of the four rows that speak of the place
abbrev pub misfits : Header → Worker → Bool
misfits h x = kind_misfit x || errand_misfit x || making_astray x || size_misfit h x

unfoldable pub worker_damaged : Header → ℕ → Worker → Bool
worker_damaged h w x =
    unknown_name x || key_above x.key || bucket_beyond h x || node_beyond (nodes_of h) x || bit_disagrees h w x
    || idle_not_zero x || misfits h x
