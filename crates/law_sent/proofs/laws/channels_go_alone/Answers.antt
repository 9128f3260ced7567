use Rattle.law_sent.proofs.Channels.{records_go_alone, lines_go_alone, bearers_begin, groups_end_alone}
use Rattle.law_sent.proofs.ChannelsBlocks.{blocks_are_right}
use Rattle.law_sent.proofs.laws.channels_go_alone.Goals as goal

pub returns-clause-records : goal.returns-clause-records
returns-clause-records c = records_go_alone

pub returns-clause-blocks : goal.returns-clause-blocks
returns-clause-blocks c = blocks_are_right

pub returns-clause-lines : goal.returns-clause-lines
returns-clause-lines c = lines_go_alone

pub returns-clause-begins : goal.returns-clause-begins
returns-clause-begins c = bearers_begin

pub returns-clause-ends : goal.returns-clause-ends
returns-clause-ends c = groups_end_alone
