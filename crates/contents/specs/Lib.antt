pub mod ContentsCode
