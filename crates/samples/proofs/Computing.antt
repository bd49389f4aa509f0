-- All that a call computes with: where these unfold, a closed run is computed to its end.
-- Assumes nothing.
use Rattle.choice.specs.Choice.{pick}
use Rattle.split.specs.Split.{rev, reverse, regular, dummy}
use Rattle.tree.specs.Tree.{par, parent_of, climb, ancestors, among, before, just_before, on_path, next_down, power_below, power_of_two, power_up_to}
use Rattle.words.specs.Words.{word, put, bucket, store, link_word, link_to, is_to}
use Rattle.sets.specs.Sets.{bit, is_in, dropped, raised}
use Rattle.scans.specs.Scans.{leave, sweep, free_from, free_node, cleared}
use Rattle.chain.specs.Chain.{is_key, keys_from}
use Rattle.header.specs.Header.{limit_broken, size_broken, busy_beyond, header_damaged, is_short, missing, doubles}
use Rattle.record.specs.Worker.{begun, tick, held_key, held_dummy}
use Rattle.faults.specs.Faults.{unknown_name, bucket_beyond, node_beyond, bit_disagrees, idle_not_zero, kind_misfit, errand_misfit, making_astray, size_misfit, worker_damaged}
use Rattle.moves.specs.Moves.{bad_link, want_of, held_for, not_found, found_key, found, comes, f1, f2, judged, f3, f4, placed, l2, tb, b2, b4, b8, i1, sz, i8, i9, i10, d4a, d4b, d6, decided_at, decided}
use Rattle.writes.specs.Carry.{closed_by}
use Rattle.register.specs.Step.{word_given, asked_at, word_at, word_for, split_for}
use Rattle.prepare.specs.Prepare.{prepare_verdict, too_few_for, prepared}
use Rattle.register.specs.Calls.{start_verdict, start_of, step_verdict, step_of}
use Rattle.words.specs.Words.{Left}
use Rattle.crew.specs.Crew.{Crew, one_call, filled, prepare_one}
use Rattle.story.specs.Shared.{Call}
use Rattle.story.specs.Run.{State, leaves}

unfoldable pub computed : State → Call → Left Crew
unfolding
    pick rev reverse regular dummy par parent_of climb ancestors among before just_before on_path next_down power_below power_of_two word put bucket
    store link_word link_to is_to bit is_in dropped raised leave sweep free_from free_node cleared is_key keys_from power_up_to limit_broken size_broken
    busy_beyond header_damaged doubles begun held_key held_dummy unknown_name bucket_beyond node_beyond bit_disagrees idle_not_zero kind_misfit
    errand_misfit making_astray size_misfit worker_damaged bad_link want_of held_for not_found found_key found comes f1 f2 judged f3 f4 placed l2 tb
    b2 b4 b8 i1 sz i8 i9 i10 d4a d4b d6 decided_at decided word_given asked_at word_at word_for split_for closed_by tick is_short prepare_verdict prepared start_verdict
    start_of step_verdict step_of missing one_call filled too_few_for prepare_one
computed = leaves
