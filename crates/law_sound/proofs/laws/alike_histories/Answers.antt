use Rattle.law_sound.proofs.AlikeHistories.{alike_histories, alike_lives}
use Rattle.law_sound.proofs.laws.alike_histories.Goals as goal

pub returns-clause-lives : goal.returns-clause-lives
returns-clause-lives c = alike_lives

pub returns-clause-tells : goal.returns-clause-tells
returns-clause-tells c = alike_histories
