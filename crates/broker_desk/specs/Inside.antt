-- What holds of the desk's fields, whatever frames come.
use Rattle.std.specs.Prelude.{◌≤◌, vec_capacity, vec_len}
use Rattle.broker_desk.specs.Desk.{AreSendable, most_daemons}
use Rattle.broker_desk.specs.declared.desk.Desk.TheInside.{Inside}

-- each waiting ask has a text; at most `most_daemons` daemons run, and the list has room for as many
pub record IsOrderly (desk : Inside) : Type 0 where
  pub sendable : AreSendable desk.broker.traffic.untaken
  pub at_most : vec_len desk.daemons ≤ most_daemons
  pub room : most_daemons ≤ vec_capacity desk.daemons
