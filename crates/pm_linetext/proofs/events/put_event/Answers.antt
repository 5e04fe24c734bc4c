-- Events with a payload.
use Rattle.pm_linetext.proofs.events.put_event.Goals as goal

pub returns-in-Usage : goal.returns-in-Usage
returns-in-Usage g c = rw c.in-Usage.is c.put_payload.ensures

pub returns-in-Suspend : goal.returns-in-Suspend
returns-in-Suspend g c = rw c.in-Suspend.is c.put_payload-in-Suspend.ensures

pub returns-in-Resume : goal.returns-in-Resume
returns-in-Resume g c = rw c.in-Resume.is c.put_payload-in-Resume.ensures
