-- What each effect leaves in the node words and in the header, and what it asks to be stored in the buckets.
use Rattle.std.specs.Prelude.{ℕ, true, false, List}
use Rattle.words.specs.Words.{Tables, tables, SPLIT_KEY, LINK, STANDING, FREE, TAKEN, put, store, link_to}
use Rattle.header.specs.declared.Header.{Header}
use Rattle.header.specs.Header.{sized, counted}
use Rattle.acts.specs.declared.Effect.{Effect}
use Rattle.acts.specs.declared.Effect.TheVariants.{Nothing, TakeKey, TakeDummy, Free, Aim, Place, Mark, Unlink, Store, Count, Size}

-- what is to be stored in the buckets: nothing, or a node in a bucket
pub data Stores : Type 0 where
  none : Stores
  into : (bucket node : ℕ) → Stores

-- node n is taken, with its split key
abbrev pub taken : ℕ → ℕ → List ℕ → List ℕ
taken n split ns = put (put ns n SPLIT_KEY split) n STANDING TAKEN

abbrev pub nodes_after : Effect → List ℕ → List ℕ
nodes_after Nothing ns = ns
nodes_after (TakeKey n split) ns = taken n split ns
nodes_after (TakeDummy n split) ns = taken n split ns
nodes_after (Free n) ns = put ns n STANDING FREE
nodes_after (Aim n next) ns = put ns n LINK (link_to next false)
nodes_after (Place n next prev) ns = put (put ns n LINK (link_to next false)) prev LINK (link_to n false)
nodes_after (Mark n next) ns = put ns n LINK (link_to next true)
nodes_after (Unlink prev next n busy) ns = put (put ns prev LINK (link_to next false)) n STANDING busy
nodes_after (Store b n) ns = ns
nodes_after (Count v) ns = ns
nodes_after (Size v) ns = ns

-- a bucket is stored by B8 alone
abbrev pub stored_by : Effect → Stores
stored_by Nothing = none
stored_by (TakeKey n split) = none
stored_by (TakeDummy n split) = none
stored_by (Free n) = none
stored_by (Aim n next) = none
stored_by (Place n next prev) = none
stored_by (Mark n next) = none
stored_by (Unlink prev next n busy) = none
stored_by (Store b n) = into b n
stored_by (Count v) = none
stored_by (Size v) = none

abbrev pub header_after : Effect → Header → Header
header_after Nothing h = h
header_after (TakeKey n split) h = h
header_after (TakeDummy n split) h = h
header_after (Free n) h = h
header_after (Aim n next) h = h
header_after (Place n next prev) h = h
header_after (Mark n next) h = h
header_after (Unlink prev next n busy) h = h
header_after (Store b n) h = h
header_after (Count v) h = counted v h
header_after (Size v) h = sized v h

-- ---- over a table of bucket words
abbrev pub stored_in : Stores → List ℕ → List ℕ
stored_in none bs = bs
stored_in (into b n) bs = store bs b n

abbrev pub tables_after : Effect → Tables → Tables
tables_after e ts = tables (nodes_after e ts.nodes) (stored_in (stored_by e) ts.buckets)
