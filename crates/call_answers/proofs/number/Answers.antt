-- `call_answers::number` meets its contract: each arm tells its variant, and answers that variant's number.
use Rattle.calls.specs.Refusals.{refusal_number}
use Rattle.call_answers.proofs.number.Goals as goal

pub returns-in-Length : goal.returns-in-Length
unfolding refusal_number
returns-in-Length c = rw c.in-Length.is

pub returns-in-Head : goal.returns-in-Head
unfolding refusal_number
returns-in-Head c = rw c.in-Head.is

pub returns-in-Code : goal.returns-in-Code
unfolding refusal_number
returns-in-Code c = rw c.in-Code.is

pub returns-in-Contents : goal.returns-in-Contents
unfolding refusal_number
returns-in-Contents c = rw c.in-Contents.is

pub returns-in-Body : goal.returns-in-Body
unfolding refusal_number
returns-in-Body c = rw c.in-Body.is

pub returns-in-Weight : goal.returns-in-Weight
unfolding refusal_number
returns-in-Weight c = rw c.in-Weight.is

pub returns-in-Unknown : goal.returns-in-Unknown
unfolding refusal_number
returns-in-Unknown c = rw c.in-Unknown.is

pub returns-in-Full : goal.returns-in-Full
unfolding refusal_number
returns-in-Full c = rw c.in-Full.is

pub returns-in-Rule : goal.returns-in-Rule
unfolding refusal_number
returns-in-Rule c = rw c.in-Rule.is

pub returns-in-Step : goal.returns-in-Step
unfolding refusal_number
returns-in-Step c = rw c.in-Step.is

pub returns-in-Sheet : goal.returns-in-Sheet
unfolding refusal_number
returns-in-Sheet c = rw c.in-Sheet.is

pub returns-in-Output : goal.returns-in-Output
unfolding refusal_number
returns-in-Output c = rw c.in-Output.is

pub returns-in-Line : goal.returns-in-Line
unfolding refusal_number
returns-in-Line c = rw c.in-Line.is

pub returns-in-List : goal.returns-in-List
unfolding refusal_number
returns-in-List c = rw c.in-List.is

pub returns-in-Text : goal.returns-in-Text
unfolding refusal_number
returns-in-Text c = rw c.in-Text.is

pub returns-in-Size : goal.returns-in-Size
unfolding refusal_number
returns-in-Size c = rw c.in-Size.is
