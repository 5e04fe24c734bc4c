-- What each command of pm_lab may come to: its own endings (this project's own).
use Rattle.std.specs.Prelude.{◌≡◌, ℕ, Bool, Option, Some, None, List, []}
use Rattle.pm_cmd_lab.specs.ends.Coming.{Writes, ending_of}
use Rattle.pm_cmd_lab.specs.ends.Ending.{Done, Ending, OfThis, SaidRefused}
use Rattle.pm_cmd_lab.specs.ends.Reading.{OfFile, OfPlan}
use Rattle.pm_cmd_lab.specs.declared.ends.ending.Outcome.{Outcome}
use Rattle.pm_cmd_lab.specs.declared.ends.ending.Outcome.TheVariants as outcome
use Rattle.pm_model.specs.declared.plan.Plan.{Plan}
use Rattle.pm_module.specs.Module.{module_text}
use Rattle.pm_say_driver.specs.Told.{SaysFile}
use Rattle.pm_say.specs.declared.told.Kind.{Kind}
use Rattle.pm_say.specs.declared.told.Kind.TheVariants as kind
use Rattle.pm_say.specs.declared.told.Said.{Said}
use Rattle.pm_cmd_lab.specs.find.Check.{CheckEnds, CheckUnread, OfExpectations}
use Rattle.pm_cmd_lab.specs.find.Driver.{DriverEnds}
use Rattle.pm_cmd_lab.specs.find.Find.{FindUnread, OfFind}
use Rattle.pm_cmd_lab.specs.order.Failing.{FailingEnds}
use Rattle.pm_cmd_lab.specs.order.Finding.{FindingEnds}
use Rattle.pm_cmd_lab.specs.order.Order.{OrderEnds}
use Rattle.pm_cmd_lab.specs.orders.Expect.{ExpectEnds, ExpectUnread}
use Rattle.pm_cmd_lab.specs.orders.Orders.{OrdersEnds}
use Rattle.pm_cmd_lab.specs.picture.Picture.{OfPicture, PictureUnread}
use Rattle.pm_lab_words.specs.Request.{Asked, Help, HelpOn, Version, Say, Find, Check, FindDriver, Picture, Orders, OrdersExpected, Order, OrderFailing, OrderFinding, Kernel}
use Rattle.pm_cmd_lab.specs.orders.Seen.{OfSeen, SeenUnread}
use Rattle.pm_lab_words.specs.declared.names.Command.{Command}
use Rattle.pm_lab_words.specs.declared.names.Command.TheVariants as command
use Rattle.pm_cmd_lab.specs.declared.others.help.TheConstants.{HELP, VERSION, SAY_PAGE, FIND_PAGE, PICTURE_PAGE, ORDERS_PAGE, ORDER_PAGE, KERNEL_PAGE}

-- what the command told, by what the plan came to
abbrev pub outcome_of : Kind → Outcome
outcome_of kind.Clean = outcome.Done
outcome_of kind.Warned = outcome.Found
outcome_of kind.Refused = outcome.Refused

-- `say PLAN` over the bytes of the file of this name: the text is what is said of them
pub record SayEndsOf (file bytes : List ℕ) (ending : Ending) : Type 0 where
  pub said : Said
  pub says : SaysFile file bytes said
  pub is : ending ≡ ending_of (outcome_of said.kind) said.text.items

-- `say PLAN`: a file that is too long is told so on `out` too
abbrev pub SayEnds : Bool → Option (List ℕ) → List ℕ → Ending → Type 0
SayEnds all known file = OfFile all known file (λ told. SaidRefused told) (SayEndsOf file)

-- `kernel PLAN`: the text of the plan's module
abbrev pub KernelEnds : Plan → Ending → Type 0
KernelEnds plan ending = ending ≡ Done (module_text plan)

-- the page of a command
abbrev pub page_of : Command → List ℕ
page_of command.Say = SAY_PAGE.now
page_of command.Find = FIND_PAGE.now
page_of command.Picture = PICTURE_PAGE.now
page_of command.Orders = ORDERS_PAGE.now
page_of command.Order = ORDER_PAGE.now
page_of command.Kernel = KERNEL_PAGE.now

-- the endings of the command that is asked for, over files of which so much is told
abbrev pub AskedEnds : Bool → (List ℕ → Option (List ℕ)) → Asked → Ending → Type 0
AskedEnds all known Help = Writes outcome.Done HELP.now
AskedEnds all known (HelpOn c) = Writes outcome.Done (page_of c)
AskedEnds all known Version = Writes outcome.Done VERSION.now
AskedEnds all known (Say plan) = SayEnds all (known plan) plan
AskedEnds all known (Find plan trace notes) = OfPlan all (known plan) plan (OfFind all (known trace) plan trace notes)
AskedEnds all known (Check plan trace expect ktap notes) = OfPlan all (known plan) plan (CheckEnds all known plan expect trace ktap notes)
AskedEnds all known (FindDriver file bounds notes) = DriverEnds all (known file) file bounds notes
AskedEnds all known (Picture plan trace json) = OfPlan all (known plan) plan (OfPicture all (known trace) trace json)
AskedEnds all known (Orders plan bounds differ None) = OfPlan all (known plan) plan (OrdersEnds bounds differ)
AskedEnds all known (Orders plan bounds differ (Some log)) = OfPlan all (known plan) plan (OfSeen all (known log) bounds differ)
AskedEnds all known (OrdersExpected plan expect bounds differ) = OfPlan all (known plan) plan (OfExpectations all (known expect) expect (ExpectEnds bounds differ expect))
AskedEnds all known (OrderFailing plan expect bounds index) = OfPlan all (known plan) plan (OfExpectations all (known expect) expect (FailingEnds bounds index))
AskedEnds all known (Order plan bounds sought) = OfPlan all (known plan) plan (OrderEnds bounds sought)
AskedEnds all known (OrderFinding file bounds notes plan number) = FindingEnds all (known file) file (record { bounds = bounds; notes = notes; plan = plan; number = number })
AskedEnds all known (Kernel plan) = OfPlan all (known plan) plan KernelEnds

-- which file's read failed, of those that it reads
abbrev pub AskedUnread : Bool → (List ℕ → Option (List ℕ)) → Asked → (List ℕ → Type 0) → Type 0 → List ℕ → Type 0
AskedUnread all known (Say plan) Alone Failed = OfThis plan Failed
AskedUnread all known (Find plan trace notes) Alone Failed = FindUnread all (known plan) plan trace (Alone plan) Failed
AskedUnread all known (Check plan trace expect ktap notes) Alone Failed = CheckUnread all known plan expect trace (Alone plan) Failed
AskedUnread all known (FindDriver file bounds notes) Alone Failed = OfThis file Failed
AskedUnread all known (Picture plan trace json) Alone Failed = PictureUnread all (known plan) plan trace (Alone plan) Failed
AskedUnread all known (Orders plan bounds differ None) Alone Failed = OfThis plan Failed
AskedUnread all known (Orders plan bounds differ (Some log)) Alone Failed = SeenUnread all (known plan) plan log (Alone plan) Failed
AskedUnread all known (OrdersExpected plan expect bounds differ) Alone Failed = ExpectUnread all (known plan) plan expect (Alone plan) Failed
AskedUnread all known (OrderFailing plan expect bounds index) Alone Failed = ExpectUnread all (known plan) plan expect (Alone plan) Failed
AskedUnread all known (Order plan bounds sought) Alone Failed = OfThis plan Failed
AskedUnread all known (OrderFinding file bounds notes plan number) Alone Failed = OfThis file Failed
AskedUnread all known (Kernel plan) Alone Failed = OfThis plan Failed
AskedUnread all known _ Alone Failed = OfThis [] ⊥
