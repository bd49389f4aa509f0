-- A record with one field changed. antt has no update of a record, so each is written out, once.
use Rattle.std.specs.Prelude.{ℕ, Bool}
use Rattle.record.specs.declared.Worker.{Worker}

abbrev pub to : ℕ → Worker → Worker
to v x = record { place = v; errand = x.errand; kind = x.kind; key = x.key; wanted = x.wanted; making = x.making; size = x.size; start = x.start; prev = x.prev; cur = x.cur; next = x.next; marked = x.marked; held = x.held; dummy = x.dummy; steps = x.steps }

abbrev pub with_errand : ℕ → Worker → Worker
with_errand v x = record { place = x.place; errand = v; kind = x.kind; key = x.key; wanted = x.wanted; making = x.making; size = x.size; start = x.start; prev = x.prev; cur = x.cur; next = x.next; marked = x.marked; held = x.held; dummy = x.dummy; steps = x.steps }

abbrev pub with_wanted : ℕ → Worker → Worker
with_wanted v x = record { place = x.place; errand = x.errand; kind = x.kind; key = x.key; wanted = v; making = x.making; size = x.size; start = x.start; prev = x.prev; cur = x.cur; next = x.next; marked = x.marked; held = x.held; dummy = x.dummy; steps = x.steps }

abbrev pub with_making : ℕ → Worker → Worker
with_making v x = record { place = x.place; errand = x.errand; kind = x.kind; key = x.key; wanted = x.wanted; making = v; size = x.size; start = x.start; prev = x.prev; cur = x.cur; next = x.next; marked = x.marked; held = x.held; dummy = x.dummy; steps = x.steps }

abbrev pub with_size : ℕ → Worker → Worker
with_size v x = record { place = x.place; errand = x.errand; kind = x.kind; key = x.key; wanted = x.wanted; making = x.making; size = v; start = x.start; prev = x.prev; cur = x.cur; next = x.next; marked = x.marked; held = x.held; dummy = x.dummy; steps = x.steps }

abbrev pub with_start : ℕ → Worker → Worker
with_start v x = record { place = x.place; errand = x.errand; kind = x.kind; key = x.key; wanted = x.wanted; making = x.making; size = x.size; start = v; prev = x.prev; cur = x.cur; next = x.next; marked = x.marked; held = x.held; dummy = x.dummy; steps = x.steps }

abbrev pub with_prev : ℕ → Worker → Worker
with_prev v x = record { place = x.place; errand = x.errand; kind = x.kind; key = x.key; wanted = x.wanted; making = x.making; size = x.size; start = x.start; prev = v; cur = x.cur; next = x.next; marked = x.marked; held = x.held; dummy = x.dummy; steps = x.steps }

abbrev pub with_cur : ℕ → Worker → Worker
with_cur v x = record { place = x.place; errand = x.errand; kind = x.kind; key = x.key; wanted = x.wanted; making = x.making; size = x.size; start = x.start; prev = x.prev; cur = v; next = x.next; marked = x.marked; held = x.held; dummy = x.dummy; steps = x.steps }

abbrev pub with_next : ℕ → Worker → Worker
with_next v x = record { place = x.place; errand = x.errand; kind = x.kind; key = x.key; wanted = x.wanted; making = x.making; size = x.size; start = x.start; prev = x.prev; cur = x.cur; next = v; marked = x.marked; held = x.held; dummy = x.dummy; steps = x.steps }

abbrev pub with_marked : Bool → Worker → Worker
with_marked v x = record { place = x.place; errand = x.errand; kind = x.kind; key = x.key; wanted = x.wanted; making = x.making; size = x.size; start = x.start; prev = x.prev; cur = x.cur; next = x.next; marked = v; held = x.held; dummy = x.dummy; steps = x.steps }

abbrev pub with_held : ℕ → Worker → Worker
with_held v x = record { place = x.place; errand = x.errand; kind = x.kind; key = x.key; wanted = x.wanted; making = x.making; size = x.size; start = x.start; prev = x.prev; cur = x.cur; next = x.next; marked = x.marked; held = v; dummy = x.dummy; steps = x.steps }

abbrev pub with_dummy : ℕ → Worker → Worker
with_dummy v x = record { place = x.place; errand = x.errand; kind = x.kind; key = x.key; wanted = x.wanted; making = x.making; size = x.size; start = x.start; prev = x.prev; cur = x.cur; next = x.next; marked = x.marked; held = x.held; dummy = v; steps = x.steps }

abbrev pub with_steps : ℕ → Worker → Worker
with_steps v x = record { place = x.place; errand = x.errand; kind = x.kind; key = x.key; wanted = x.wanted; making = x.making; size = x.size; start = x.start; prev = x.prev; cur = x.cur; next = x.next; marked = x.marked; held = x.held; dummy = x.dummy; steps = v }
