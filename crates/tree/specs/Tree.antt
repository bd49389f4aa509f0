-- The tree of the buckets (figure 2, GET_PARENT): each bucket but 0 was split from its parent, and their number is a power of two.
use Rattle.std.specs.Prelude.{ℕ, zero, suc, ◌+◌, ◌*◌, ◌/◌, ◌%◌, ◌^◌, Bool, false, ◌&&◌, ◌||◌, List, [], ◌∷◌, leb, eqb}
use Rattle.choice.specs.Choice.{pick}

-- b, of at most k bits, with its top set bit cleared: the lowest bit stays, unless no other is set
unfoldable pub par : ℕ → ℕ → ℕ
par zero b = 0
par (suc k) b = pick (leb b 1) 0 (par k (b / 2) * 2 + b % 2)

-- a bucket's parent, the bucket that it was split from: its number with the top set bit cleared
unfoldable pub parent_of : ℕ → ℕ
parent_of bucket = par 32 bucket

-- b, its parent, that one's parent and so on, up to 0 or for n parents
unfoldable pub climb : ℕ → ℕ → List ℕ
climb zero b = b ∷ []
climb (suc n) b = b ∷ pick (eqb b 0) [] (climb n (parent_of b))

-- the path from a bucket to bucket 0, both included: a parent's number is less, so that many parents are enough
unfoldable pub ancestors : ℕ → List ℕ
ancestors bucket = climb bucket bucket

-- is a a member of the list?
unfoldable pub among : ℕ → List ℕ → Bool
among a [] = false
among a (x ∷ xs) = eqb a x || among a xs

-- the member that stands just before a, where x stands before the list; 0 where there is none
unfoldable pub before : ℕ → ℕ → List ℕ → ℕ
before a x [] = 0
before a x (y ∷ ys) = pick (eqb y a) x (before a y ys)

-- the member that stands just before a in the list; 0 where there is none
unfoldable pub just_before : ℕ → List ℕ → ℕ
just_before a [] = 0
just_before a (x ∷ xs) = before a x xs

-- is the ancestor on the path from the bucket to bucket 0, whose dummies are made before the bucket's own?
unfoldable pub on_path : ℕ → ℕ → Bool
on_path bucket ancestor = among ancestor (ancestors bucket)

-- the bucket just below `making` on that path, whose dummy is made next; 0 where there is none
unfoldable pub next_down : ℕ → ℕ → ℕ
next_down bucket making = just_before making (ancestors bucket)

-- is x one of 2 ^ 0, 2 ^ 1, .., up to but without 2 ^ k?
unfoldable pub power_below : ℕ → ℕ → Bool
power_below zero x = false
power_below (suc k) x = eqb x (2 ^ k) || power_below k x

-- is x a power of two, as the number of buckets always is?
unfoldable pub power_of_two : ℕ → Bool
power_of_two x = power_below 32 x

-- x is a power of two from 2 to `most`
unfoldable pub power_up_to : ℕ → ℕ → Bool
power_up_to most x = leb 2 x && leb x most && power_of_two x
