-- The promise about the calls of this crate. A step of a list is what `step` ensures of one call, so each law here is about the code:
-- any list of calls from a start, cut anywhere, with any torn bytes, mounts given any state, answers as the plain store does. Assumes nothing.
use mathlib.Core.Path.{◌≡◌, refl, sym, ap, subst}
use mathlib.Core.Bool.{false}
use mathlib.Core.List.{List}
use Prim.Native.Nat.{ℕ, ◌<◌, ◌≤◌}
use lib.ListN.{length}
use Rattle.lists.proofs.Tests.{clash}
use Rattle.chip.specs.Counts.{total}
use Rattle.chip.specs.Geometry.{Nand, geometry_of, blocks_of}
use Rattle.tree.specs.Tree.{Table}
use Rattle.tree.specs.Step6.{top}
use Rattle.promise.specs.Plain.{Plain, UpdateCall, insertion, deletion, accepted, leaf, resting}
use Rattle.promise.specs.Calls as C
use Rattle.promise.specs.Calls.{means, state_of}
use Rattle.promise.specs.Image.{image_meaning}
use Rattle.promise.specs.Steps.{Step, Only, Named, NoFormat, boots, one, Runs, Takes, Mounted, Started, Formatted}
use Rattle.promise.specs.History.{TreeOf, KeepsThick, Lawful, OfUpdate, LawfulAct}
use Rattle.promise.specs.Thickness as T
use Rattle.promise.specs.Promise as P
use Rattle.promise.specs.Erases as E
use Rattle.promise.specs.Wear as W
use Rattle.promise.specs.Forecasts as N
use Rattle.promise.proofs.Promise.{format_starts, mount_mounts}
use Rattle.promise.proofs.Trees.{insert_lawful, delete_lawful, insert_keeps_thick, delete_keeps_thick}
use Rattle.promise.proofs.Thickness.{stays_thick, formatted_thick, any_thick, foreign_thick}
use Rattle.promise.proofs.Claims as L
use Rattle.promise.proofs.Durable as D
use Rattle.promise.proofs.Figures as F
use Rattle.promise.proofs.Wear.{once_each, erases_pay, erases_few, leaves_free_lem}
use Rattle.promise.proofs.Forecasts.{forecast_holds, forecast_now, read_still, refused_still, still_out}
use Rattle.store.specs.declared.state.State.{State}
use Rattle.store.specs.declared.step.Call.{Call}
use Rattle.store.specs.declared.step.Call.TheVariants.{Format, Insert, Delete, LookUp, Forecast, Commit, Mount}
use Rattle.store.specs.declared.step.Stepped.{Stepped}
use Rattle.store.specs.Answers.{step_answer}
use Rattle.store.specs.State.{Room}
use Rattle.store.specs.Ensured.{index}
use Rattle.store.specs.Step.{act_of, KeyBits, StepsBy}
use Rattle.store.proofs.StepLaws.{step_allowed}
use Rattle.store.proofs.StartTree.{mounted_tree}

-- a step of the code that was lent the one image whole
abbrev pub stepped : Call → (torn : List ℕ) → State → (image : List ℕ) → Stepped → (left : List ℕ) → Step index
stepped call torn s i r i' =
    record { act = act_of call torn; given = s; lent = i; left = i'; answer = step_answer r.answer; ops = total r.ops; state = r.state; image = i' }

-- it is a step of a list: a mount or a format from any state, another call from the state at hand
pub step_takes : (H : State → Type 0) (call : Call) (torn : List ℕ) (s : State) (i : List ℕ) (r : Stepped) (i' : List ℕ) → StepsBy call torn s i r i'
    → (boots (act_of call torn) ≡ false → H s) → Takes index H i (stepped call torn s i r i')
step_takes H call torn s i r i' h u = record { allowed = step_allowed call torn s i r i' h; lends = one refl refl; handed = u }

-- a box that was without power: a mount and a format go on with a list whatever state they are given
pub mount_takes : (H : State → Type 0) (m : Nand) (n : ℕ) (torn : List ℕ) (s : State) (i : List ℕ) (r : Stepped) (i' : List ℕ) → StepsBy (Mount m n) torn s i r i'
    → Takes index H i (stepped (Mount m n) torn s i r i')
mount_takes H m n torn s i r i' h = step_takes H (Mount m n) torn s i r i' h (λ e. clash refl e)

pub format_takes : (H : State → Type 0) (m : Nand) (n : ℕ) (torn : List ℕ) (s : State) (i : List ℕ) (r : Stepped) (i' : List ℕ) → StepsBy (Format m n) torn s i r i'
    → Takes index H i (stepped (Format m n) torn s i r i')
format_takes H m n torn s i r i' h = step_takes H (Format m n) torn s i r i' h (λ e. clash refl e)

-- ---- where a list starts
-- a finished format is a start, and so is a finished mount of an image that has room; there K is a tree of the chip
pub index_starts : (nand : Nand) (s : State) (i : List ℕ) → Formatted index nand s i → Started index nand (leaf (blocks_of (geometry_of nand) (length i))) 1 s i
index_starts = format_starts index

pub index_mounts : (nand : Nand) (n : ℕ) (torn : List ℕ) (s : State) (i : List ℕ) (ops : ℕ) (s' : State) (i' : List ℕ) (K : Table) (G : ℕ)
    → image_meaning (geometry_of nand) i ≡ means K G → C.Mount index nand n torn s i accepted ops s' i'
    → Mounted index nand K G s' i' × (Room (geometry_of nand) i → Started index nand K G s' i')
index_mounts = mount_mounts index

pub index_tree : (nand : Nand) (K : Table) (G : ℕ) (s : State) (i : List ℕ) → Mounted index nand K G s i → TreeOf 0 (blocks_of (geometry_of nand) (length i)) K
index_tree = mounted_tree

-- the state is of the part that the start names
pub index_nand : (nand : Nand) (K : Table) (G : ℕ) (s : State) (i : List ℕ) → Mounted index nand K G s i → s.nand ≡ nand
unfolding state_of resting
index_nand nand K G s i m = ap (λ (q : Plain). q.nand) m.is

-- what holds of inserts and deletes with keys of 32 bits holds of every call of the code that is an update
of_update : (Q : UpdateCall → Type 0) → ((k v : ℕ) → k < top → Q (insertion k v)) → ((k : ℕ) → k < top → Q (deletion k))
    → (c : Call) (torn : List ℕ) → KeyBits c → OfUpdate Q (act_of c torn)
of_update Q f g (Format m n) torn h = tt
of_update Q f g (Insert k v) torn h = f k v h
of_update Q f g (Delete k) torn h = g k h
of_update Q f g (LookUp k) torn h = tt
of_update Q f g Forecast torn h = tt
of_update Q f g (Commit n) torn h = tt
of_update Q f g (Mount m n) torn h = tt

-- they are lawful
pub index_lawful : (c : Call) (torn : List ℕ) → KeyBits c → LawfulAct (act_of c torn)
index_lawful = of_update Lawful insert_lawful delete_lawful

-- and keep trees thick
pub index_keeps_thick : (n : ℕ) → n ≤ 8 → (c : Call) (torn : List ℕ) → KeyBits c → OfUpdate (KeepsThick n) (act_of c torn)
index_keeps_thick n l = of_update (KeepsThick n) (λ k v. insert_keeps_thick n k v l) (λ k. delete_keeps_thick n k l)

-- ---- what holds of every list
pub index_promise : P.Promise index
index_promise = L.promise index

pub index_claim : P.OneClaim index
index_claim = L.one_claim index

pub index_choices : P.ChosenThen index
index_choices = L.chosen_then index

pub index_any : P.PromiseAny index
index_any = L.promise_any index

pub index_foreign : P.PromiseForeign index
index_foreign = L.promise_foreign index

pub index_thick : T.FormattedThick index
index_thick = formatted_thick index

pub index_stays_thick : T.StaysThick index
index_stays_thick = stays_thick index

pub index_any_thick : T.AnyThick index
index_any_thick = any_thick index

pub index_foreign_thick : T.ForeignThick index
index_foreign_thick = foreign_thick index

pub index_good : P.GoodAt index
index_good = L.good_at index

pub index_commit : P.CommitRefused index
index_commit = L.commit_refused index

pub index_mount : P.MountRefused index
index_mount = L.mount_refused index

pub index_format : P.FormatRefused index
index_format = L.format_refused index

pub index_power : P.CommitPowered index
index_power = L.commit_powered index

pub index_look_up : P.LookUpTells index
index_look_up = D.look_up_tells index

pub index_durable : P.Durable index
index_durable = D.durable index

pub index_choice : P.ChoiceHolds index
index_choice = D.choice_holds index

pub index_mount_drops : P.MountDrops index
index_mount_drops = D.mount_drops index

-- ---- erases on record
pub index_unworn : E.StartsUnworn index
index_unworn = F.starts_unworn index

pub index_figures : E.FiguresTell index
index_figures = F.figures_tell index

pub index_figures_any : E.FiguresAny index
index_figures_any = F.figures_any index

pub index_figures_fit : E.FiguresFit index
index_figures_fit = F.figures_fit index

-- ---- an erase pays: from a state that calls gave, mounts naming its part, with no call cut and no format finished; so after a finished format
pub index_unbroken : (nand : Nand) (s : State) (i : List ℕ) (xs : List (Step index)) → Formatted index nand s i → Runs index (Only index s) i xs
    → Named index nand xs → W.NoneCut index xs → NoFormat index xs → W.Unbroken index s i xs
index_unbroken nand s i xs f r m c n =
    let k = (index_starts nand s i f).mounted in
    record { good = k.good; runs = r; named = subst (λ (p : Nand). Named index p xs) (sym (index_nand nand _ _ s i k)) m; uncut = c; unformatted = n }

pub index_once_each : W.OnceEach index
index_once_each = once_each index

pub index_erases_pay : W.ErasesPay index
index_erases_pay = erases_pay index

pub index_erases_few : W.ErasesFew index
index_erases_few = erases_few index

pub index_leaves_free : W.LeavesFree index
index_leaves_free = leaves_free_lem index

-- ---- what a commit would cost: a forecast put before a commit tells what that does; and it changes nothing
pub index_forecast : N.ForecastHolds index
index_forecast = forecast_holds index

pub index_forecast_now : N.ForecastNow index
index_forecast_now = forecast_now index

pub index_read_still : N.ReadStill index
index_read_still = read_still index

pub index_refused_still : N.RefusedStill index
index_refused_still = refused_still index

pub index_still_out : N.StillOut index
index_still_out = still_out index
