-- The laws that callers of the tree use, each from the file where it is proved. Assumes nothing.
pub use Rattle.tree.proofs.Records.{Kept, records_between, find_is, first_tree}
pub use Rattle.tree.proofs.Tables.{next_length}
pub use Rattle.tree.proofs.Paths.{path_there}
pub use Rattle.tree.proofs.NodeCount.{records_nodes, nodes_length, records_most}
pub use Rattle.tree.proofs.EvenParts.{PartOf, PartsOf, even_eights, even_sixteens, even_length, nodes_for_most, nodes_for_two, nodes_for_fewer}
pub use Rattle.tree.proofs.LayerFacts.{parts_for, layers_above, layers_zero, layers_few, layers_many, layers_by, length_above, above_length, nodes_beside, beside_few, beside_many, layers_next, layers_length}
pub use Rattle.tree.proofs.InsertLaws.{inserted_keeps, inserted_filled, inserted_thick, find_inserted, find_inserted_other}
pub use Rattle.tree.proofs.InsertDone.{insert_done, Inserted, insert_keeps}
pub use Rattle.tree.proofs.InsertNumbers.{insert_exact}
pub use Rattle.tree.proofs.Height.{root_entries_lem, thick_level, inserted_level}
pub use Rattle.tree.proofs.DeleteLaws.{delete_keeps, delete_thick, delete_root, delete_fewer, find_deleted, find_deleted_other}
pub use Rattle.tree.proofs.Validity.{Small, Smalls, Valids}
pub use Rattle.tree.proofs.InsertUnits.{insert_units_lem, insert_valid}
pub use Rattle.tree.proofs.DeleteUnits.{DeleteMade, delete_units_lem, delete_valid}
pub use Rattle.tree.proofs.ThickLaws.{first_thick}
pub use Rattle.tree.proofs.ThinLaws.{thin_thick, thick_thin, thick_zero, first_not_thin}
pub use Rattle.tree.proofs.RebuildLaws.{TreeAnew, rebuild_tree, rebuild_small, rebuild_next, rebuild_length, rebuild_beyond, rebuild_below}
