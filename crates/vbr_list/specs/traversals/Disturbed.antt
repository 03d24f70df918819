-- How often other passes disturb a call, and the budgets that are enough all the same.
use Rattle.std.specs.Prelude.{ℕ, ◌+◌, ◌-◌, ◌*◌, List}
use Rattle.vbr_words.specs.Buckets.{bucket_of}
use Rattle.vbr_machine.specs.Accounts.{incarnations_after}
use Rattle.vbr_machine.specs.Disturbances.{disturbances, own_changes, updates}
use Rattle.vbr_machine.specs.Nodes.{marked_after}
use Rattle.vbr_machine.specs.declared.event.Event.{Event}
use Rattle.vbr_slots.specs.views.Views.{PassView, Trace}
use Rattle.vbr_at_table.specs.costs.Budgets.{most_to_take_among}
use Rattle.vbr_at_table.specs.costs.Gained.{gained}
use Rattle.vbr_list.specs.calls.Budgets.{enough_past, insert_costs_past}
use Rattle.vbr_list.specs.updates.Wanted.{steps_to_compare}
use Rattle.vbr_list.specs.declared.wanted.Wanted.{Wanted}

-- how often other passes had disturbed this one at a bucket, after these events: they inserted, marked or unlinked a node there, or advanced the epoch
abbrev pub disturbed_at : Trace → ℕ → List Event → ℕ
disturbed_at p bucket run = disturbances p.start run p.who bucket

-- and how often they did since, in what the pass has seen
abbrev pub disturbed_in : Trace → Trace → ℕ → ℕ
disturbed_in p q bucket = disturbed_at p bucket q.seen - disturbed_at p bucket p.seen

-- how often the epoch was advanced since; each advance of another disturbs the pass at every bucket
abbrev pub advances_since : Trace → Trace → ℕ
advances_since p q = (incarnations_after p.start q.seen).epoch - (incarnations_after p.start p.seen).epoch

-- and how often others disturbed a pass at a bucket in other ways, if it never advanced the epoch itself: how often they changed the list there
abbrev pub changes_since : Trace → Trace → ℕ → ℕ
changes_since p q bucket = disturbed_in p q bucket - advances_since p q

-- the same at a key's bucket
abbrev pub disturbed_after : Trace → ℕ → List Event → ℕ
disturbed_after p key run = disturbed_at p (bucket_of p.start.shape key) run

abbrev pub disturbed : Trace → Trace → ℕ → ℕ
disturbed p q key = disturbed_in p q (bucket_of p.start.shape key)

-- the most that this can be: one for each advance of the epoch since, two for each update answered yes, and one for each node that was marked
abbrev pub most_disturbed : Trace → Trace → ℕ
most_disturbed p q = (incarnations_after p.start q.seen).epoch - (incarnations_after p.start p.seen).epoch
    + 2 * (updates (incarnations_after p.start q.seen).calls - updates (incarnations_after p.start p.seen).calls)
    + marked_after p.start p.seen

-- enough for a look-up among so many nodes that is disturbed so often: it may begin again once for each time, and meet one more node
abbrev pub enough_among : ℕ → ℕ → ℕ
enough_among nodes times = (times + 1) * (5 * (nodes + times) + 11)

-- the most that it costs if it is answered, with so many steps to read a value
abbrev pub costs_among : ℕ → ℕ → ℕ → ℕ
costs_among nodes times reading = (times + 1) * (5 * (nodes + times) + 4 + reading)

-- the most that it costs to find the next key of a bucket among so many nodes, with so many steps to read a value
abbrev pub seek_costs_among : ℕ → ℕ → ℕ → ℕ
seek_costs_among nodes times reading = (times + 1) * (5 * (nodes + times) + (3 + reading))

-- how often the pass had changed the list of a bucket itself, or moved the epoch
abbrev pub changed_at : Trace → ℕ → List Event → ℕ
changed_at p bucket run = own_changes p.start run p.who bucket

abbrev pub changed_after : Trace → ℕ → List Event → ℕ
changed_after p key run = changed_at p (bucket_of p.start.shape key) run

-- enough to find where a key stands among so many nodes, for a pass that is disturbed so often
abbrev pub enough_to_search_among : ℕ → ℕ → ℕ
enough_to_search_among nodes times = (times + 1) * (9 * (nodes + times) + 11)

-- what a call has to do more than alone if it is disturbed so often: for each time one more search among all nodes that it can meet, and so many steps
abbrev pub searches_more : ℕ → ℕ → ℕ → ℕ
searches_more each nodes times = times * (9 * (nodes + times) + each)

-- enough to insert among so many nodes, with seven steps more each time, for a pass that is disturbed so often and takes a slot in so many steps
abbrev pub enough_to_insert_among : ℕ → ℕ → ℕ → ℕ
enough_to_insert_among nodes times taking = enough_past (nodes + times) taking + searches_more 7 nodes times

-- the most that it costs if it is answered, with so many steps to store a value
abbrev pub insert_costs_among : ℕ → ℕ → ℕ → ℕ → ℕ
insert_costs_among nodes times taking storing = insert_costs_past (nodes + times) taking storing + searches_more 7 nodes times

-- enough to store among so many nodes, with twelve steps more each time, for a pass that is disturbed so often and has compared and taken a slot in so many steps
abbrev pub enough_to_store_among : ℕ → ℕ → ℕ → ℕ
enough_to_store_among nodes times taking = enough_past (nodes + times) taking + searches_more 12 nodes times

-- the most that it costs if it is answered: six more
abbrev pub store_costs_among : ℕ → ℕ → ℕ → ℕ
store_costs_among nodes times taking = enough_to_store_among nodes times taking + 6

-- the most steps in which the call takes a slot, while other passes take slots out of the shared pool
abbrev pub steps_for_slot : PassView → Trace → ℕ
steps_for_slot p q = most_to_take_among p.trace.start p.pool (gained p.trace q)

-- and in which a store does, which may read the value before
abbrev pub steps_to_prepare : Wanted → PassView → Trace → ℕ
steps_to_prepare wanted p q = steps_for_slot p q + steps_to_compare wanted

-- the most that it costs if it is found
abbrev pub find_costs_among : ℕ → ℕ → ℕ
find_costs_among nodes times = (times + 1) * (9 * (nodes + times) + 3)

-- the most that an answered remove costs, with so many steps to read a value
abbrev pub remove_costs_among : ℕ → ℕ → ℕ → ℕ
remove_costs_among nodes times reading = (times + 1) * (9 * (nodes + times) + 6) + 4 + reading

-- enough for a call with a slot in hand among so many nodes, with so many steps more each time, for a pass that is disturbed so often
abbrev pub enough_in_hand_among : ℕ → ℕ → ℕ → ℕ
enough_in_hand_among each nodes times = 9 * (nodes + times) + 11 + searches_more each nodes times

-- the most that it costs if it is answered, in so many steps after its last search
abbrev pub costs_in_hand_among : ℕ → ℕ → ℕ → ℕ → ℕ
costs_in_hand_among each nodes times after = 9 * (nodes + times) + 3 + after + searches_more each nodes times
