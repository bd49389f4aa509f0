-- Each contract says its result, and what a lent table holds at exit, as one definition of the arguments, so two runs that meet it agree.
-- Assumes nothing.
use mathlib.Core.Path.{◌≡◌, sym, ◌∙◌}
use contract.Lifetimes.{Lfts}
use denote.Triple.Clauses.{AtExit}
use borrow.Fn.Kinds.{Dens, res_t, ended_of}
use Rattle.choice.proofs.Same.{Determined}
use Rattle.words.proofs.Lengths.of.Reads as lengths_of
use Rattle.words.proofs.Lengths.of.Kinds as lengths_of-kinds
use Rattle.words.proofs.word.Reads as word
use Rattle.words.proofs.word.Kinds as word-kinds
use Rattle.words.proofs.bucket.Reads as bucket
use Rattle.words.proofs.bucket.Kinds as bucket-kinds
use Rattle.words.proofs.put.Reads as put
use Rattle.words.proofs.put.Kinds as put-kinds
use Rattle.words.proofs.store.Reads as store
use Rattle.words.proofs.store.Kinds as store-kinds
use Rattle.words.proofs.LinkFromU32.from.Reads as link_from
use Rattle.words.proofs.LinkFromU32.from.Kinds as link-from-kinds
use Rattle.words.proofs.U32FromLink.from.Reads as word_from
use Rattle.words.proofs.U32FromLink.from.Kinds as word-from-kinds

pub lengths_of_same : Determined 2 lengths_of-kinds.ps lengths_of-kinds.r lengths_of.Post
lengths_of_same κs a x y e f p q = p ∙ sym q

pub link_from_same : Determined 0 link-from-kinds.ps link-from-kinds.r link_from.Post
link_from_same κs a x y e f p q = p ∙ sym q

pub word_from_same : Determined 0 word-from-kinds.ps word-from-kinds.r word_from.Post
word_from_same κs a x y e f p q = p ∙ sym q

pub word_same : Determined 1 word-kinds.ps word-kinds.r word.Post
word_same κs a x y e f p q = p ∙ sym q

pub bucket_same : Determined 1 bucket-kinds.ps bucket-kinds.r bucket.Post
bucket_same κs a x y e f p q = p ∙ sym q

pub put_same : (κs : Lfts 1) (a : Dens κs put-kinds.ps) (x y : (res_t put-kinds.r κs).Denot) (e f : AtExit (ended_of 1 put-kinds.ps put-kinds.r) κs)
    → put.Post κs a x e → put.Post κs a y f → e.0.now ≡ f.0.now
put_same κs a x y e f p q = p ∙ sym q

pub store_same : (κs : Lfts 1) (a : Dens κs store-kinds.ps) (x y : (res_t store-kinds.r κs).Denot) (e f : AtExit (ended_of 1 store-kinds.ps store-kinds.r) κs)
    → store.Post κs a x e → store.Post κs a y f → e.0.now ≡ f.0.now
store_same κs a x y e f p q = p ∙ sym q
