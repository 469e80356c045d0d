-- By the three policies (PolicyNames).
use Rattle.text.specs.Text.{word}
use Rattle.text.proofs.PolicyNames.{named}
use Rattle.text.proofs.lines.name_of_policy.Goals as goal

pub returns-in-Plain-clause-name : goal.returns-in-Plain-clause-name
unfolding word
returns-in-Plain-clause-name c = named _ c.from.ensures c.in-Plain.is

pub returns-in-Stp-clause-name : goal.returns-in-Stp-clause-name
unfolding word
returns-in-Stp-clause-name c = named _ c.from.ensures c.in-Stp.is

pub returns-in-StpPlus-clause-name : goal.returns-in-StpPlus-clause-name
unfolding word
returns-in-StpPlus-clause-name c = named _ c.from.ensures c.in-StpPlus.is
