-- How the members of a set and of a map lie in memory.
use base.Stored.{Coded}
use denote.RattleType.{RattleType}
use Rattle.std.specs.Coded.{coded_option}
use Rattle.std.specs.declared.option.Option.{Option}
use Rattle.vbr_words.specs.contracts.nodes.Keys as Keys
use Rattle.vbr_words.specs.contracts.nodes.KeysNodes.TheImpl as of_keys
use Rattle.vbr_words.specs.contracts.nodes.Entries as Entries
use Rattle.vbr_words.specs.contracts.nodes.EntriesNodes.TheImpl as of_entries
use Rattle.vbr_set.specs.contracts.member.Member as Member

-- a member of a set, whose nodes are keys
abbrev pub set_row : RattleType
set_row = Member.the_row Keys.the_row of_keys.ghosts

-- a member of a map, whose nodes have values
abbrev pub map_row : RattleType
map_row = Member.the_row Entries.the_row of_entries.ghosts

-- a member or none, as it stands in memory
abbrev pub member_coded : Coded (Option set_row.Denot)
member_coded = coded_option set_row.coded

abbrev pub map_member_coded : Coded (Option map_row.Denot)
map_member_coded = coded_option map_row.coded
