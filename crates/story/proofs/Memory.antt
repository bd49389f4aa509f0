-- A store to one of a node's three words leaves the other two and every other node: the laws of the words, by name.
-- Assumes nothing.
use mathlib.Core.Path.{◌≡◌}
use mathlib.Core.Logic.{◌≢◌}
use mathlib.Core.List.{List}
use Prim.Native.Nat.{ℕ, ◌*◌, ◌≤◌}
use native.Mathlib.Omega.{arith}
use lib.ListN.{length}
use Rattle.words.specs.Words.{SPLIT_KEY, LINK, STANDING, put}
use Rattle.words.proofs.Laws.{put_same, put_node, put_word}
use Rattle.register.specs.Registered.{key, link, standing}

-- after a store to a split key
pub link_of_key : (m : List ℕ) (n v i : ℕ) → link (put m n SPLIT_KEY v) i ≡ link m i
link_of_key m n v i = put_word m n 0 v i 1 (omega arith) (omega arith) (omega arith)

pub standing_of_key : (m : List ℕ) (n v i : ℕ) → standing (put m n SPLIT_KEY v) i ≡ standing m i
standing_of_key m n v i = put_word m n 0 v i 2 (omega arith) (omega arith) (omega arith)

pub key_same : (m : List ℕ) (n v : ℕ) → 1 ≤ n → 3 * n ≤ length m → key (put m n SPLIT_KEY v) n ≡ v
key_same m n v = put_same m n 0 v (omega arith)

pub key_other : (m : List ℕ) (n v i : ℕ) → i ≢ n → key (put m n SPLIT_KEY v) i ≡ key m i
key_other m n v i = put_node m n 0 v i 0 (omega arith) (omega arith)

-- after a store to a link
pub key_of_link : (m : List ℕ) (n v i : ℕ) → key (put m n LINK v) i ≡ key m i
key_of_link m n v i = put_word m n 1 v i 0 (omega arith) (omega arith) (omega arith)

pub standing_of_link : (m : List ℕ) (n v i : ℕ) → standing (put m n LINK v) i ≡ standing m i
standing_of_link m n v i = put_word m n 1 v i 2 (omega arith) (omega arith) (omega arith)

pub link_same : (m : List ℕ) (n v : ℕ) → 1 ≤ n → 3 * n ≤ length m → link (put m n LINK v) n ≡ v
link_same m n v = put_same m n 1 v (omega arith)

pub link_other : (m : List ℕ) (n v i : ℕ) → i ≢ n → link (put m n LINK v) i ≡ link m i
link_other m n v i = put_node m n 1 v i 1 (omega arith) (omega arith)

-- after a store to a standing
pub key_of_standing : (m : List ℕ) (n v i : ℕ) → key (put m n STANDING v) i ≡ key m i
key_of_standing m n v i = put_word m n 2 v i 0 (omega arith) (omega arith) (omega arith)

pub link_of_standing : (m : List ℕ) (n v i : ℕ) → link (put m n STANDING v) i ≡ link m i
link_of_standing m n v i = put_word m n 2 v i 1 (omega arith) (omega arith) (omega arith)

pub standing_same : (m : List ℕ) (n v : ℕ) → 1 ≤ n → 3 * n ≤ length m → standing (put m n STANDING v) n ≡ v
standing_same m n v = put_same m n 2 v (omega arith)

pub standing_other : (m : List ℕ) (n v i : ℕ) → i ≢ n → standing (put m n STANDING v) i ≡ standing m i
standing_other m n v i = put_node m n 2 v i 2 (omega arith) (omega arith)
