use Rattle.pm_cmd_ends.proofs.ending.Fault.tell.Goals as goal

pub returns-in-TraceTooLong : goal.returns-in-TraceTooLong
returns-in-TraceTooLong g c = rw c.in-TraceTooLong.is c.say-in-TraceTooLong.ensures

pub returns-in-NoDevice : goal.returns-in-NoDevice
returns-in-NoDevice g c = rw c.in-NoDevice.is c.say-in-NoDevice.ensures
