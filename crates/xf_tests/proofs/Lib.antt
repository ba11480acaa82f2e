pub mod ShortTrees
