-- What is kept of all devices, and the times that come of it.
use Rattle.std.specs.Prelude.{ℕ, ◌≡◌, List, length, map}
use Rattle.pm_account.specs.declared.Times.{Times}
use Rattle.pm_account.specs.declared.stay.Stay.{Stay}
use Rattle.pm_account.specs.Kept.{AreKept, until}
use Rattle.pm_model.specs.History.{History}
use Rattle.pm_model.specs.Lawful.{last_time}

-- what is kept of each device, and when the last line was written
pub record Stayed : Type 0 where
  pub stays : List Stay
  pub last : ℕ

-- it is what is kept of these lines
pub record AreTimes (s : Stayed) (h : History) : Type 0 where
  pub last_is : s.last ≡ last_time h
  pub kept : AreKept (length s.stays) h s.stays

-- the times of each device until the last line
abbrev pub account_of : Stayed → List Times
account_of s = map (λ stay. until stay s.last) s.stays
