-- The budgets that are enough for a pass that is alone: it is refused for want of steps only below them.
use Rattle.std.specs.Prelude.{ℕ, ◌+◌, ◌*◌, ◌<◌, Bool, true, false, Result, Ok, Err}
use Rattle.vbr_machine.specs.Start.{Start}
use Rattle.vbr_words.specs.declared.place.At.TheVariants.{Head}
use Rattle.vbr_words.specs.Buckets.{bucket_of}
use Rattle.vbr_slots.specs.steps.Alone.{ahead}
use Rattle.vbr_slots.specs.views.Views.{PassView, Trace}
use Rattle.vbr_at_table.specs.costs.Budgets.{most_to_take}
use Rattle.vbr_at_table.specs.answers.Values.{steps_to_value}
use Rattle.vbr_list.specs.updates.Wanted.{steps_to_compare}
use Rattle.vbr_list.specs.declared.wanted.Wanted.{Wanted}
use Rattle.vbr_at_table.specs.declared.refusal.Refusal.{Refusal}
use Rattle.vbr_at_table.specs.declared.refusal.Refusal.TheVariants.{OutOfSteps, NoSlot, EpochSpent}

-- how many nodes, linked or marked, are in the list of a bucket, in what the pass has seen
abbrev pub nodes_listed_in : Trace → ℕ → ℕ
nodes_listed_in p bucket = ahead p bucket (Head bucket)

-- and in the list of a key's bucket
abbrev pub listed_for : Trace → ℕ → ℕ
listed_for p key = nodes_listed_in p (bucket_of p.start.shape key)

-- for a look-up: five steps for each of them, and eleven
abbrev pub enough_to_look_up : Trace → ℕ → ℕ
enough_to_look_up p key = 5 * listed_for p key + 11

-- to find where a key stands, and to remove it: nine for each, and eleven
abbrev pub enough_to_search : Trace → ℕ → ℕ
enough_to_search p key = 9 * listed_for p key + 11

-- for an insert past so many nodes: twice nine for each, the steps of taking a slot, and fourteen
abbrev pub enough_past : ℕ → ℕ → ℕ
enough_past nodes taking = 18 * nodes + taking + 14

-- for an insert among the nodes of the key's bucket
abbrev pub enough_to_insert : PassView → ℕ → ℕ
enough_to_insert p key = enough_past (listed_for p.trace key) (most_to_take p.trace.start p.pool)

-- for an insert of a pass that has slots in its own pool
abbrev pub enough_with_a_slot : Trace → ℕ → ℕ
enough_with_a_slot p key = 18 * listed_for p key + 82

-- the most that an answered call costs a pass that is alone: for a look-up five steps for each node, and four
abbrev pub look_up_costs : Trace → ℕ → ℕ
look_up_costs p key = 5 * listed_for p key + 4

-- to find where a key stands: nine for each, and three
abbrev pub find_costs : Trace → ℕ → ℕ
find_costs p key = 9 * listed_for p key + 3

-- the steps of reading a value: two if nodes have values
abbrev pub steps_where : Bool → ℕ
steps_where true = 2
steps_where false = 0

abbrev pub steps_to_value_of : Start → ℕ
steps_to_value_of start = steps_where start.shape.values

-- for a remove nine for each, and ten, and the steps of reading the value
abbrev pub remove_costs : Trace → ℕ → ℕ
remove_costs p key = 9 * listed_for p key + 10 + steps_to_value_of p.start

-- what is enough for a remove to unlink the node besides: two more than it costs
abbrev pub enough_to_unlink : Trace → ℕ → ℕ
enough_to_unlink p key = remove_costs p key + 2

-- for an insert past so many nodes: twice nine for each, the steps of taking a slot, and nine, and the steps of storing the value
abbrev pub insert_costs_past : ℕ → ℕ → ℕ → ℕ
insert_costs_past nodes taking storing = 18 * nodes + taking + 9 + storing

-- among the nodes of the key's bucket
abbrev pub insert_costs : PassView → ℕ → ℕ
insert_costs p key = insert_costs_past (listed_for p.trace key) (most_to_take p.trace.start p.pool) (steps_to_value p.trace.start.shape.values)

-- for a store: as for an insert, and the steps of reading the value before a slot is taken
abbrev pub enough_to_store : Wanted → PassView → ℕ → ℕ
enough_to_store wanted p key = enough_to_insert p key + steps_to_compare wanted

-- for a pass that has slots in its own pool
abbrev pub enough_to_store_with_a_slot : Wanted → Trace → ℕ → ℕ
enough_to_store_with_a_slot wanted p key = enough_with_a_slot p key + steps_to_compare wanted

-- a store costs at most six more than are enough for it
abbrev pub store_costs : Wanted → PassView → ℕ → ℕ
store_costs wanted p key = enough_to_store wanted p key + 6

-- what is enough for it to unlink the node that it replaced besides: two more than it costs
abbrev pub enough_to_unlist : Wanted → PassView → ℕ → ℕ
enough_to_unlist wanted p key = store_costs wanted p key + 2

-- a refusal for want of steps comes only with a budget below so many
abbrev pub LacksSteps : ℕ → ℕ → Refusal → Type 0
LacksSteps steps budget (OutOfSteps used) = budget < steps
LacksSteps steps budget NoSlot = Unit {0}
LacksSteps steps budget (EpochSpent epoch) = Unit {0}

-- the call was answered, or the epoch is spent
abbrev pub IsAnsweredOrSpent : {A : Type 0} → Result A Refusal → Type 0
IsAnsweredOrSpent (Ok reply) = Unit {0}
IsAnsweredOrSpent (Err (OutOfSteps used)) = ⊥
IsAnsweredOrSpent (Err NoSlot) = ⊥
IsAnsweredOrSpent (Err (EpochSpent epoch)) = Unit {0}
