use Rattle.law_run.proofs.ChannelLogs.{ends_log_on_channels, sides_log_their_calls}
use Rattle.law_run.proofs.two_ends.ends_log_on_channels.Goals as goal

pub returns-clause-calls : goal.returns-clause-calls
returns-clause-calls c = ends_log_on_channels

pub returns-clause-steps : goal.returns-clause-steps
returns-clause-steps c = sides_log_their_calls
