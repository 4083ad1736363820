use Rattle.oth_history.proofs.Histories.{since_begins, events_of-since, since_same_events}
use Rattle.oth_history.proofs.laws.no_further_event_means_the_same_events.Goals as goal

pub returns : goal.returns
returns g c = λ author s earlier later. (
  (λ since. (since_begins author s earlier later since, events_of-since author s earlier later since)),
  (λ both. since_same_events author s earlier later both.0 both.1),
)
