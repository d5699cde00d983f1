pub mod KeyedLines
