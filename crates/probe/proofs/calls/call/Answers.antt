use Rattle.probe.proofs.MakesLaws.{makes_format, makes_mount, makes_commit, makes_insert, makes_delete, makes_look, makes_report, makes_show, makes_forecast}
use Rattle.probe.proofs.calls.call.Goals as goal
use Rattle.std.proofs.Common.{refl}

pub returns-in-Format : goal.returns-in-Format
returns-in-Format c =
    let a = c.args in
    makes_format a.nand a.call a.torn.now a.state a.image.now _ _ c.in-Format.is _ _ c.tell_wrote.ensures c.format.ensures

pub returns-in-Insert : goal.returns-in-Insert
returns-in-Insert c =
    let a = c.args in
    makes_insert a.nand a.call a.torn.now a.state a.image.now _ _ _ c.in-Insert.is _ c.tell_updated.ensures c.insert.ensures

pub returns-in-Delete : goal.returns-in-Delete
returns-in-Delete c =
    let a = c.args in
    makes_delete a.nand a.call a.torn.now a.state a.image.now _ _ c.in-Delete.is _ c.tell_updated-in-Delete.ensures c.delete.ensures

pub returns-in-LookUp : goal.returns-in-LookUp
returns-in-LookUp c =
    let a = c.args in
    makes_look a.nand a.call a.torn.now a.state a.image.now _ _ c.in-LookUp.is _ c.tell_look.ensures c.look_up.ensures

pub returns-in-Commit : goal.returns-in-Commit
returns-in-Commit c =
    let a = c.args in
    makes_commit a.nand a.call a.torn.now a.state a.image.now _ _ c.in-Commit.is _ _ c.tell_wrote-in-Commit.ensures c.commit.ensures

pub returns-in-Mount : goal.returns-in-Mount
returns-in-Mount c =
    let a = c.args in
    makes_mount a.nand a.call a.torn.now a.state a.image.now _ _ c.in-Mount.is _ _ c.tell_wrote-in-Mount.ensures c.mount.ensures

pub returns-in-Report : goal.returns-in-Report
returns-in-Report c =
    let a = c.args in
    makes_report a.nand a.call a.torn.now a.state a.image.now _ _ c.in-Report.is c.tell_report.ensures

pub returns-in-Show : goal.returns-in-Show
returns-in-Show c =
    let a = c.args in
    makes_show a.nand a.call a.torn.now a.state a.image.now _ _ c.in-Show.is refl

pub returns-in-Forecast : goal.returns-in-Forecast
returns-in-Forecast c =
    let a = c.args in
    makes_forecast a.nand a.call a.torn.now a.state a.image.now _ c.in-Forecast.is _ c.tell_forecast.ensures c.forecast.ensures
