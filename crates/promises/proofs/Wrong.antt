-- Each version and our step are computed at one small input, and one number of what they leave is not the same.
-- Assumes nothing.
use Prim.Native.Nat.{ℕ}
use mathlib.Core.Bool.{true≢false}
use mathlib.Core.Path.{◌≡◌, refl, ap}
use native.Mathlib.Omega.{arith}
use Rattle.choice.specs.Choice.{pick}
use Rattle.split.specs.Split.{rev, reverse, regular, dummy}
use Rattle.tree.specs.Tree.{par, parent_of, climb, ancestors, among, on_path, power_below, power_of_two, power_up_to}
use Rattle.words.specs.Words.{Left, LINK, STANDING, word, put, bucket, store, link_word, link_to, is_to}
use Rattle.sets.specs.Sets.{bit, is_in, dropped, raised}
use Rattle.scans.specs.Scans.{leave, sweep, free_from, free_node}
use Rattle.names.specs.Names.{number_of}
use Rattle.header.specs.Header.{limit_broken, size_broken, busy_beyond, header_damaged, doubles}
use Rattle.record.specs.Worker.{begun, tick, held_key, held_dummy}
use Rattle.faults.specs.Faults.{unknown_name, bucket_beyond, node_beyond, bit_disagrees, idle_not_zero, kind_misfit, errand_misfit, making_astray, size_misfit, worker_damaged}
use Rattle.moves.specs.Moves.{bad_link, held_for, not_found, comes, f1, placed, l2, tb, b4, i1, sz, i8, i9, d4b, d6, decided_at, decided}
use Rattle.acts.specs.declared.Outcome.{Outcome}
use Rattle.writes.specs.Carry.{closed_by}
use Rattle.register.specs.Step.{word_given, asked_at, word_at, word_for, split_for}
use Rattle.header.specs.Header.{is_short}
use Rattle.register.specs.Calls.{start_verdict, start_of, step_verdict, step_of}
use Rattle.promises.specs.Wrong

-- our step at an input whose words are written out: all that it computes with
ours : Wrong.Step
unfolding
    rev reverse regular dummy par parent_of climb ancestors among on_path power_below power_of_two word put bucket store link_word
    link_to is_to bit is_in dropped leave sweep free_from free_node power_up_to limit_broken size_broken busy_beyond header_damaged doubles
    held_key held_dummy unknown_name bucket_beyond node_beyond bit_disagrees idle_not_zero kind_misfit errand_misfit making_astray size_misfit
    worker_damaged bad_link held_for not_found comes f1 placed l2 tb b4 i1 sz i8 i9 d4b d6 decided_at decided word_given asked_at word_at word_for split_for
    closed_by tick is_short step_verdict step_of pick
ours = step_of

pub accepted : Wrong.Accepted
unfolding ours
accepted = record { insert = refl; make = refl; want = refl; unlink = refl; last = refl }

pub caught : Wrong.Caught
unfolding
    ours start_verdict start_of begun raised Wrong.refuses_all Wrong.refuses_starts Wrong.says_yes Wrong.does_nothing Wrong.to_the_end
    Wrong.all_at_once Wrong.invents_count Wrong.invents_steps Wrong.unsigned_count Wrong.frees_at_once Wrong.stores_early Wrong.restarting
    Wrong.restarts_on_size
caught =
    record {
      refuses = λ e. let z : ◌≡◌ {A = ℕ} 12 0 = ap (λ (a : Left Outcome). number_of a.out.called.answer) e in omega arith;
      refuses_start = λ e. let z : ◌≡◌ {A = ℕ} 12 0 = ap (λ (o : Outcome). number_of o.called.answer) e in omega arith;
      yes_to_all = λ e. let z : ◌≡◌ {A = ℕ} 1 0 = ap (λ (a : Left Outcome). number_of a.out.called.answer) e in omega arith;
      nothing = λ e. let z : ◌≡◌ {A = ℕ} 0 2147483648 = ap (λ (a : Left Outcome). word a.tables.nodes 7 STANDING) e in omega arith;
      at_once = λ e. let z : ◌≡◌ {A = ℕ} 14 0 = ap (λ (a : Left Outcome). word a.tables.nodes 1 LINK) e in omega arith;
      count = λ e. let z : ◌≡◌ {A = ℕ} 1 0 = ap (λ (a : Left Outcome). a.out.called.header.count) e in omega arith;
      steps = λ e. let z : ◌≡◌ {A = ℕ} 9 8 = ap (λ (a : Left Outcome). a.out.called.steps) e in omega arith;
      unsigned = λ e. true≢false e;
      frees = λ e. let z : ◌≡◌ {A = ℕ} 0 3 = ap (λ (a : Left Outcome). word a.tables.nodes 7 STANDING) e in omega arith;
      stores = λ e. let z : ◌≡◌ {A = ℕ} 2 0 = ap (λ (a : Left Outcome). bucket a.tables.buckets 1) e in omega arith;
      restarts = λ e. let z : ◌≡◌ {A = ℕ} 2 6 = ap (λ (a : Left Outcome). a.out.worker.place) e in omega arith;
    }
