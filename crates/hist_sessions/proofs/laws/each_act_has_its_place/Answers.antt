use Rattle.hist_acts.specs.declared.act.Act.TheVariants as acts
use Rattle.hist_sessions.proofs.Numbers.{stands-there}
use Rattle.hist_sessions.proofs.laws.each_act_has_its_place.Goals as goal

pub returns : goal.returns
returns c = record {
  opened = λ h older g s. stands-there h (acts.Opened g s) older;
  cut = λ h older g s. stands-there h (acts.Cut g s) older;
  ordered = λ h older g s k o. stands-there h (acts.Order g s k o) older;
  handled = λ h older g s k a. stands-there h (acts.Handled g s k a) older;
  answered = λ h older g s k a. stands-there h (acts.Answered g s k a) older;
  noticed = λ h older g s n. stands-there h (acts.Notice g s n) older;
  heard = λ h older g s n. stands-there h (acts.Heard g s n) older;
}
