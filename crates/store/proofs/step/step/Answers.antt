use Rattle.store.proofs.StepLaws.{step_format, step_insert, step_delete, step_look, step_forecast, step_commit, step_mount}
use Rattle.store.proofs.step.step.Goals as goal

pub returns-in-Format : goal.returns-in-Format
returns-in-Format c = step_format c.args.call c.args.torn.now c.args.state c.args.image.now _ _ _ c.in-Format.is _ _ c.wrote.ensures c.format.ensures

pub returns-in-Insert : goal.returns-in-Insert
returns-in-Insert c = step_insert c.args.call c.args.torn.now c.args.state c.args.image.now _ _ _ c.in-Insert.is _ c.updated.ensures c.insert.ensures

pub returns-in-Delete : goal.returns-in-Delete
returns-in-Delete c = step_delete c.args.call c.args.torn.now c.args.state c.args.image.now _ _ c.in-Delete.is _ c.updated-in-Delete.ensures c.delete.ensures

pub returns-in-LookUp : goal.returns-in-LookUp
returns-in-LookUp c = step_look c.args.call c.args.torn.now c.args.state c.args.image.now _ _ c.in-LookUp.is _ c.looked.ensures c.look_up.ensures

pub returns-in-Forecast : goal.returns-in-Forecast
returns-in-Forecast c = step_forecast c.args.call c.args.torn.now c.args.state c.args.image.now _ c.in-Forecast.is _ c.foreseen.ensures c.forecast.ensures

pub returns-in-Commit : goal.returns-in-Commit
returns-in-Commit c = step_commit c.args.call c.args.torn.now c.args.state c.args.image.now _ _ c.in-Commit.is _ _ c.wrote-in-Commit.ensures c.commit.ensures

pub returns-in-Mount : goal.returns-in-Mount
returns-in-Mount c = step_mount c.args.call c.args.torn.now c.args.state c.args.image.now _ _ _ c.in-Mount.is _ _ c.wrote-in-Mount.ensures c.mount.ensures
