-- Every field of a busy record is in its range: M buckets, N nodes. A field that is set stays in it.
-- Assumes nothing.
use Prim.Native.Nat.{ℕ, ◌≤◌, ◌<◌}
use Rattle.names.specs.Names.{EXTRA, DELETE, KEY_LIMIT}
use Rattle.header.specs.declared.Header.{Header}
use Rattle.header.specs.Header.{nodes_of}
use Rattle.record.specs.declared.Worker.{Worker}

-- over the numbers, so that a record's other fields are free
pub record Ranges (M N k e y w b s p c n h d : ℕ) : Type 0 where
  pub some : 1 ≤ k
  pub kind : k ≤ DELETE
  pub errand : e ≤ EXTRA
  pub key : y ≤ KEY_LIMIT
  pub wanted : w < M
  pub making : b < M
  pub start : s ≤ N
  pub prev : p ≤ N
  pub cur : c ≤ N
  pub next : n ≤ N
  pub held : h ≤ N
  pub dummy : d ≤ N

abbrev pub Sane : Header → Worker → Type 0
Sane h x =
    Ranges h.m (nodes_of h) x.kind x.errand x.key x.wanted x.making x.start x.prev x.cur x.next x.held x.dummy

module _ {M N k e y w b s p c n h d : ℕ} (r : Ranges M N k e y w b s p c n h d) where
  pub errand_in : {a : ℕ} → a ≤ EXTRA → Ranges M N k a y w b s p c n h d
  errand_in l = record { some = r.some; kind = r.kind; errand = l; key = r.key; wanted = r.wanted; making = r.making; start = r.start; prev = r.prev; cur = r.cur; next = r.next; held = r.held; dummy = r.dummy }

  pub wanted_in : {a : ℕ} → a < M → Ranges M N k e y a b s p c n h d
  wanted_in l = record { some = r.some; kind = r.kind; errand = r.errand; key = r.key; wanted = l; making = r.making; start = r.start; prev = r.prev; cur = r.cur; next = r.next; held = r.held; dummy = r.dummy }

  pub making_in : {a : ℕ} → a < M → Ranges M N k e y w a s p c n h d
  making_in l = record { some = r.some; kind = r.kind; errand = r.errand; key = r.key; wanted = r.wanted; making = l; start = r.start; prev = r.prev; cur = r.cur; next = r.next; held = r.held; dummy = r.dummy }

  pub start_in : {a : ℕ} → a ≤ N → Ranges M N k e y w b a p c n h d
  start_in l = record { some = r.some; kind = r.kind; errand = r.errand; key = r.key; wanted = r.wanted; making = r.making; start = l; prev = r.prev; cur = r.cur; next = r.next; held = r.held; dummy = r.dummy }

  pub prev_in : {a : ℕ} → a ≤ N → Ranges M N k e y w b s a c n h d
  prev_in l = record { some = r.some; kind = r.kind; errand = r.errand; key = r.key; wanted = r.wanted; making = r.making; start = r.start; prev = l; cur = r.cur; next = r.next; held = r.held; dummy = r.dummy }

  pub cur_in : {a : ℕ} → a ≤ N → Ranges M N k e y w b s p a n h d
  cur_in l = record { some = r.some; kind = r.kind; errand = r.errand; key = r.key; wanted = r.wanted; making = r.making; start = r.start; prev = r.prev; cur = l; next = r.next; held = r.held; dummy = r.dummy }

  pub next_in_lem : {a : ℕ} → a ≤ N → Ranges M N k e y w b s p c a h d
  next_in_lem l = record { some = r.some; kind = r.kind; errand = r.errand; key = r.key; wanted = r.wanted; making = r.making; start = r.start; prev = r.prev; cur = r.cur; next = l; held = r.held; dummy = r.dummy }

  pub held_in : {a : ℕ} → a ≤ N → Ranges M N k e y w b s p c n a d
  held_in l = record { some = r.some; kind = r.kind; errand = r.errand; key = r.key; wanted = r.wanted; making = r.making; start = r.start; prev = r.prev; cur = r.cur; next = r.next; held = l; dummy = r.dummy }

  pub dummy_in : {a : ℕ} → a ≤ N → Ranges M N k e y w b s p c n h a
  dummy_in l = record { some = r.some; kind = r.kind; errand = r.errand; key = r.key; wanted = r.wanted; making = r.making; start = r.start; prev = r.prev; cur = r.cur; next = r.next; held = r.held; dummy = l }
